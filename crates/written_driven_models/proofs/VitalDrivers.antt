-- The VHDL model of a cell's drivers is well formed.
use Rattle.std.proofs.Common.{◌≡◌, ℕ, ◌<◌, ◌^◌, Bool, true, false, not, ◌==◌, List, [], ◌∷◌, ◌++◌, length, refl, ap, ◌∙◌, subst}
use Rattle.std.proofs.Common.{arith, IsTrue, codes, decimal, if◌then◌else◌}
use Rattle.std.specs.List.{list_all}
use Rattle.std.specs.Char.{is_ascii_alphabetic, is_ascii_digit}
use Rattle.std.specs.Str.{str_eq_ignore_ascii_case}
use Rattle.std.proofs.lemmas.Bool.{and_parts, not-true, eqb-true}
use Rattle.std.proofs.lemmas.List.Elements.{All-from_recursion}
use Rattle.std.proofs.lemmas.Map.Keys.{IsDistinct-tail}
use Rattle.generated_drivers.specs.driver_models.Cores.{fits}
use Rattle.generated_drivers.specs.vhdl_tokens.Words.{is_reserved, is_used, vhdl_words, used_words}
use Rattle.written_entities.specs.vhdl_tokens.Tokens.{is_name_byte}
use Rattle.written_entities.specs.vhdl_tokens.Spelling.{is_same}
use Rattle.generated_drivers.specs.vital_models.Kept.{is_kept_entity_name, is_kept_driver_name, driver_name}
use Rattle.generated_drivers.specs.vital_models.Ports.{ports_of}
use Rattle.written_entities.specs.vhdl_grammar.VhdlDeclarations.{port_names}
use Rattle.written_entities.specs.vhdl_grammar.WellFormed.{IsEntityName, IsPortName}
use Rattle.generated_entities.proofs.generated_modules.NameLists.{each_among}
use Rattle.generated_entities.proofs.Names.{IsGivenName, kept, cell_number, decimal_number, number_digits}
use Rattle.generated_entities.proofs.PortNames.{ports_are_named}
use Rattle.generated_drivers.specs.Generated.{pins_of, vital_driver_of}
use Rattle.generated_drivers.proofs.Fitting.{vital_drivers_fit}
use Rattle.written_driven_models.specs.DriverLaws.{VitalDriversAreWellFormed}
use Rattle.written_driven_models.proofs.CellPins.{keeps_outputs, few_own, few_driven, few_paths}

-- the name, which is not that of the architecture
record IsDriverName (name : List ℕ) : Type 0 where
  given : IsGivenName name
  other : is_same name (codes "driven") ≡ false

digits_spelled : (ds : List ℕ) → IsTrue (list_all is_ascii_digit ds) → IsEntityName (codes "cell" ++ ds)
    → IsEntityName (codes "vitalz" ++ ds)
unfolding is_reserved is_used vhdl_words used_words
digits_spelled ds h named = record { identifier = named.identifier; no_word = refl }

other_named : (number : ℕ) → number < 2 ^ 64 → IsDriverName (codes "vitalz" ++ decimal number)
other_named number h = record {
  given = record {
    named = digits_spelled (decimal number) (number_digits (decimal number) (decimal_number number h)) (cell_number number h);
    no_pin = refl;
  };
  other = refl;
}

-- a name is no character
no_character : (name : List ℕ) → IsEntityName name → str_eq_ignore_ascii_case name (codes "driven") ≡ false
    → is_same name (codes "driven") ≡ false
no_character [] named e = e
no_character (b ∷ bs) named e = by (b == 39) refl
    (and_parts (is_ascii_alphabetic b) (list_all is_name_byte bs) named.identifier).0
  where
    by : (t : Bool) → (b == 39) ≡ t → IsTrue (is_ascii_alphabetic b) → is_same (b ∷ bs) (codes "driven") ≡ false
    by false t a = rw t e
    by true t a =
        let same : b ≡ 39 = eqb-true b 39 t in
        let bad : IsTrue (is_ascii_alphabetic 39) = subst (λ (z : ℕ). IsTrue (is_ascii_alphabetic z)) same a in
        absurd cc

kept_named : (given : List (List ℕ)) (name : List ℕ) → IsTrue (is_kept_driver_name given name) → IsDriverName name
kept_named given name h =
    let parts = and_parts (is_kept_entity_name given name) (not (str_eq_ignore_ascii_case name (codes "driven"))) h in
    let named = (kept given name parts.0).named in
    record {
      given = named;
      other = no_character name named.named
          (not-true (str_eq_ignore_ascii_case name (codes "driven")) parts.1);
    }

driver_named : (number : ℕ) (given : List (List ℕ)) (name : List ℕ) → number < 2 ^ 64
    → IsDriverName (driver_name number given name)
driver_named number given name h = by (is_kept_driver_name given name) refl
  where
    by : (b : Bool) → is_kept_driver_name given name ≡ b → IsDriverName (if b then name else codes "vitalz" ++ decimal number)
    by true e = kept_named given name e
    by false e = other_named number h

pub vital_drivers_are_well_formed : VitalDriversAreWellFormed
unfolding vital_driver_of
vital_drivers_are_well_formed cell given names cores core h new found =
    let name : List ℕ = driver_name cell.core.number given cell.name in
    let named = driver_named cell.core.number given cell.name h.core.number in
    let ports = ports_are_named name (pins_of cell) named.given (few_own cell h) in
    let fit = vital_drivers_fit cell name core (keeps_outputs cell h) h.driver in
    let few = few_driven cell h in
    let paths = few_paths cell h in
    record {
      written = record {
        name = named.given.named;
        other = named.other;
        ports = All-from_recursion IsPortName (port_names (ports_of name (pins_of cell)))
            (each_among IsPortName (port_names (ports_of name (pins_of cell))) ports.named);
        core = cell_number cell.core.number h.core.number;
        some = h.some;
        few = omega (arith, few);
        paths = λ k d below. (let times = h.limits.times k d below in let rise = times.rise in let fall = times.fall in
            record { rise = omega (arith, rise); fall = omega (arith, fall) });
        few_paths = omega (arith, paths);
        sound = fit.sound;
      };
      new = new;
      apart = IsDistinct-tail str_eq_ignore_ascii_case name (port_names (ports_of name (pins_of cell))) ports.apart;
      fits = ap (fits (ports_of name (pins_of cell)) (length cell.driver.drives)) found ∙ fit.tested;
      order = h.limits.order;
    }
