-- The Verilog model of a cell's drivers is well formed.
use Rattle.std.proofs.Common.{◌≡◌, ℕ, zero, suc, ◌<◌, ◌^◌, inl, inr, Bool, true, false, ◌||◌, List, [], ◌∷◌, ◌++◌, length, refl}
use Rattle.std.proofs.Common.{sym, ap, ◌∙◌, subst, arith, IsTrue, codes, decimal, nat_eq, if◌then◌else◌}
use Rattle.std.specs.Prelude.{All}
use Rattle.std.specs.List.{list_all, starts_with}
use Rattle.std.specs.Str.{bytes_eq}
use Rattle.std.proofs.lemmas.Bool.{and_from}
use Rattle.std.proofs.lemmas.List.Elements.{All-nil, All-cons}
use Rattle.std.proofs.lemmas.List.Folds.{list_all-append, list_any-append}
use Rattle.written_entities.proofs.trit_cubes.ListLemmas.{Among}
use Rattle.generated_drivers.specs.udp_tables.declared.models.VPort.{VPort}
use Rattle.generated_drivers.specs.driver_models.Cores.{fits}
use Rattle.generated_drivers.specs.driver_models.Terminals.{all_numbered}
use Rattle.driver_texts.specs.NumberedPorts.{numbered_ports, port_number, outputs_with, driven_with}
use Rattle.written_modules.specs.grammar_reader.Words.{is_among}
use Rattle.generated_drivers.specs.specify_blocks.Names.{driver_name}
use Rattle.generated_drivers.specs.specify_blocks.Ports.{ports_of}
use Rattle.written_modules.specs.verilog_grammar.VerilogModules.{port_names}
use Rattle.written_modules.specs.verilog_grammar.WellFormed.{IsName}
use Rattle.generated_drivers.specs.verilog_tokens.Kept.{is_kept_cell_name}
use Rattle.generated_drivers.specs.verilog_tokens.Tokens.{is_name_byte}
use Rattle.generated_drivers.specs.verilog_tokens.Words.{is_verilog_word, verilog_words}
use Rattle.generated_entities.proofs.generated_modules.NameLists.{told_apart}
use Rattle.generated_entities.proofs.generated_modules.NumberedNames.{decimal_digits, number_in_name, lib_stem, cell_stem}
use Rattle.generated_modules.proofs.GivenNames.{given_is_name, given_no_lib}
use Rattle.generated_modules.proofs.InnerNames.{port_form, ports_are_named}
use Rattle.verilog_drivers.specs.DriverText.{data_word}
use Rattle.verilog_drivers.specs.WellFormed.{IsNoWire}
use Rattle.generated_drivers.specs.Generated.{pins_of, verilog_driver_of}
use Rattle.generated_drivers.proofs.Fitting.{verilog_drivers_fit}
use Rattle.written_driven_models.specs.DriverLaws.{VerilogDriversAreWellFormed}
use Rattle.written_driven_models.proofs.CellPins.{keeps_outputs, few_own, own_distinct}

-- The name.

other_named : (digits : List ℕ) → IsTrue (list_all is_name_byte digits) → IsName (codes "lib_" ++ (digits ++ codes "_z"))
unfolding is_verilog_word verilog_words
other_named digits h = record {
  identifier = (lib_stem (digits ++ codes "_z")
      (list_all-append is_name_byte digits (codes "_z") ∙ and_from (list_all is_name_byte digits) true h refl)).identifier;
  no_word = refl;
}

driver_named : (number : ℕ) (name : List ℕ) → number < 2 ^ 64 → IsName (driver_name number name)
driver_named number name h = by (is_kept_cell_name name) refl
  where
    by : (b : Bool) → is_kept_cell_name name ≡ b → IsName (if b then name else codes "lib_" ++ (decimal number ++ codes "_z"))
    by true e = subst (λ b. IsName (if b then name else codes "cell" ++ decimal number)) e
        (given_is_name (codes "cell") cell_stem number name h)
    by false e = other_named (decimal number) (number_in_name (decimal number) (decimal_digits number h))

-- No port is called like a wire.

abbrev begins_own : List ℕ → Bool
begins_own x = starts_with nat_eq x (codes "lib_")

no_data : (count : ℕ) (x : List ℕ) → begins_own x ≡ false → is_among bytes_eq (all_numbered data_word count) x ≡ false
no_data zero x h = refl
no_data (suc count) x h =
    list_any-append (bytes_eq x) (all_numbered data_word count) ((data_word ++ decimal (suc count)) ∷ [])
    ∙ (ap (λ b. b || (bytes_eq x (data_word ++ decimal (suc count)) || false)) (no_data count x h)
    ∙ ap (λ b. b || false) (told_apart begins_own x (data_word ++ decimal (suc count)) h refl))

no_wires :
    (count : ℕ) (drives : List ℕ) (place number : ℕ) (ports : List VPort)
    → ((x : List ℕ) → Among x (port_names ports) → begins_own x ≡ false)
    → All (IsNoWire count) (numbered_ports drives place number ports)
no_wires count drives place number [] h = All-nil (IsNoWire count)
no_wires count drives place number (port ∷ ports) h =
    All-cons (IsNoWire count) _ _ (λ output other. no_data count port.name (h port.name (inl refl)))
    (no_wires count drives (outputs_with place port) (driven_with number (port_number drives place number port)) ports
    (λ x m. h x (inr m)))

pub verilog_drivers_are_well_formed : VerilogDriversAreWellFormed
unfolding verilog_driver_of
verilog_drivers_are_well_formed cell names cores h new found =
    let count : ℕ = length cell.driver.drives in
    let few = few_own cell h in
    let ports = ports_are_named 1 (pins_of cell) (own_distinct cell h) (omega (arith, few)) in
    let fit = verilog_drivers_fit cell (keeps_outputs cell h) h.driver in
    record {
      name = driver_named cell.core.number cell.name h.core.number;
      new = new;
      ports = ports.all;
      apart = ports.apart;
      some = h.some;
      outputs =
          no_wires count cell.driver.drives 0 0 (ports_of (pins_of cell))
          (λ x m. (let f = port_form 1 (pins_of cell) x m in
          subst (λ y. begins_own y ≡ false) (sym f.same) (given_no_lib (codes "pin") (λ ds. refl) f.number f.pin.name)));
      core = given_is_name (codes "cell") cell_stem cell.core.number cell.core.name h.core.number;
      fits = ap (fits (ports_of (pins_of cell)) count) found ∙ fit.tested;
      paths = λ k d below. (let times = h.limits.times k d below in let rise = times.rise in let fall = times.fall in
          record { rise = omega (arith, rise); fall = omega (arith, fall) });
      sound = fit.sound;
    }
