-- What holds of the ports and the paths of a well formed driver: they have names, which are found.
use Rattle.std.proofs.Common.{◌≡◌, ℕ, ◌+◌, true, not, List, [], ◌∷◌, length, Some, refl, sym, ap, subst, ◌∙◌}
use Rattle.std.specs.List.{AllByRecursion}
use Rattle.std.specs.Str.{bytes_eq}
use Rattle.std.proofs.lemmas.List.Elements.{recursion_from_All}
use Rattle.std.proofs.lemmas.Cmp.{nat_list_eq_equiv as bytes_equivalence}
use Rattle.written_modules.specs.verilog_tokens.Tokens.{is_name}
use Rattle.written_modules.specs.udp_tables.declared.models.VPort.{VPort}
use Rattle.written_modules.specs.verilog_grammar.VerilogModules.{port_names}
use Rattle.written_modules.specs.verilog_grammar.WellFormed.{IsName}
use Rattle.driven_traces.specs.declared.delays.DrivePath.{DrivePath}
use Rattle.driven_traces.specs.Drivers.{IsPathOf}
use Rattle.driver_models.specs.declared.model.DriverModel.{DriverModel}
use Rattle.driver_models.specs.PathEnds.{input_number, drive_number}
use Rattle.driver_models.specs.Cores.{Core}
use Rattle.driver_texts.specs.NumberedPorts.{NumberedPort, ports_of}
use Rattle.driver_texts.specs.PortNames.{inputs, name_at, driven_name}
use Rattle.verilog_drivers.specs.DriverText.{data_word, enable_word}
use Rattle.verilog_drivers.specs.WellFormed.{HasNumbers, IsNoWire, IsWellFormedDriver}
use Rattle.written_modules.proofs.grammar_reader.ItemPlaces.{same_bytes}
use Rattle.written_modules.proofs.Words.{name_is}
use Rattle.written_modules.proofs.ModuleTokens.{IsNamedPort}
use Rattle.written_driven_models.proofs.Languages.{IsDriverLanguage}
use Rattle.written_driven_models.proofs.NumberedDrives.{Numbered, at_end, an_input, plain, driven, all_ahead}
use Rattle.written_driven_models.proofs.DriverPorts.{numbered, path_start, drive_at, port_name_is, driven_name_is}
use Rattle.written_driven_models.proofs.TerminalReading.{IsTerminal}
use Rattle.written_driven_models.proofs.PathEndReading.{passing_at, input_number_is, drive_number_is}
use Rattle.written_driven_models.proofs.VerilogTokens.{IsNamedTerminal, IsNamedPath, IsNamedDriver, data_name, enable_name}

-- Verilog as a language of drivers
pub verilog : IsDriverLanguage is_name bytes_eq data_word enable_word
verilog = record {
  itself = same_bytes;
  turned = λ x y n m. bytes_equivalence.symm x y;
  value_is_name = λ n. name_is (Rattle.driver_models.specs.Wires.numbered data_word n) (data_name n);
  enable_is_name = λ n. name_is (Rattle.driver_models.specs.Wires.numbered enable_word n) (enable_name n);
  apart = λ n k. refl;
}

-- Ports.

all_ports : (ports : List VPort) → AllByRecursion IsName (port_names ports) → AllByRecursion IsNamedPort ports
all_ports [] h = tt
all_ports (port ∷ ports) h = (h.0, all_ports ports h.1)

pub are_names : (ports : List VPort) → AllByRecursion IsNamedPort ports
    → AllByRecursion (λ (port : VPort). is_name port.name ≡ true) ports
are_names [] h = tt
are_names (port ∷ ports) h = (name_is port.name h.0, are_names ports h.1)

named_terminals : {total : ℕ} (place number : ℕ) (left : List ℕ) (ports : List VPort) (ats : List NumberedPort)
    → Numbered total place number left ports ats → AllByRecursion IsNamedPort ports →
    AllByRecursion IsNamedTerminal ats
named_terminals place number left [] [] at_end h = tt
named_terminals place number left [] (at ∷ ats) n h = elim n [ ]
named_terminals place number left (port ∷ ports) [] n h = elim n [ ]
named_terminals place number left (port ∷ ports) (at ∷ ats) (an_input _ e n) h =
    (h.0, named_terminals place number left ports ats n h.1)
named_terminals place number left (port ∷ ports) (at ∷ ats) (plain _ e n) h =
    (h.0, named_terminals (place + 1) number left ports ats n h.1)
named_terminals place number (_ ∷ left) (port ∷ ports) (at ∷ ats) (driven _ e n) h =
    (h.0, named_terminals (place + 1) (number + 1) left ports ats n h.1)

are_terminals : (count : ℕ) (ats : List NumberedPort) → AllByRecursion IsNamedTerminal ats → AllByRecursion (IsNoWire count) ats
    → AllByRecursion (IsTerminal is_name bytes_eq data_word count) ats
are_terminals count [] n h = tt
are_terminals count (at ∷ ats) n h = (record { name = name_is at.port.name n.0; free = h.0 }, are_terminals count ats n.1 h.1)

-- Paths.

-- the ports between which a path leads
pub record IsFoundPath (m : DriverModel) (path : DrivePath) : Type 0 where
  pub from : IsName (name_at (inputs m.ports) path.from)
  pub to : IsName (driven_name m path.drive)
  pub start : input_number bytes_eq m.ports (name_at (inputs m.ports) path.from) ≡ Some path.from
  pub end : drive_number bytes_eq m.ports m.driver.drives (driven_name m path.drive) ≡ Some path.drive
  pub numbers : HasNumbers path

module _ (names : List (List ℕ)) (cores : List Core) (m : DriverModel) (h : IsWellFormedDriver names cores m) where
  pub ports_named : AllByRecursion IsNamedPort m.ports
  ports_named = all_ports m.ports (recursion_from_All IsName (port_names m.ports) h.ports)

  terminals_named : AllByRecursion IsNamedTerminal (ports_of m)
  terminals_named = named_terminals 0 0 m.driver.drives m.ports (ports_of m) (numbered m h.sound) ports_named

  pub terminals_free : AllByRecursion (IsTerminal is_name bytes_eq data_word (length m.driver.drives)) (ports_of m)
  terminals_free = are_terminals (length m.driver.drives) (ports_of m) terminals_named
      (recursion_from_All (IsNoWire (length m.driver.drives)) (ports_of m) h.outputs)

  found_path : (path : DrivePath) → IsPathOf m.driver path → HasNumbers path → IsFoundPath m path
  found_path path p n =
      let named = are_names m.ports ports_named in
      let start = path_start m h.sound path p in
      let end = drive_at m h.sound path.drive p.drive in
      let its_start : name_at (inputs m.ports) path.from ≡ start.port.name =
      port_name_is (inputs m.ports) path.from start.port start.stands in
      let its_end : driven_name m path.drive ≡ end.output.port.name =
      driven_name_is m path.drive end.place end.output.port end.driven end.output.stands in
      record {
        from = subst IsName (sym its_start)
            (passing_at IsNamedPort (λ p. p.input) m.ports path.from start.port ports_named start.stands);
        to = subst IsName (sym its_end)
            (passing_at IsNamedPort (λ p. not p.input) m.ports end.place end.output.port ports_named end.output.stands);
        start = ap (input_number bytes_eq m.ports) its_start
            ∙ input_number_is verilog m.ports path.from start.port named h.apart start.stands;
        end = ap (drive_number bytes_eq m.ports m.driver.drives) its_end
            ∙ drive_number_is verilog m.ports m.driver.drives path.drive end.place end.output.port named h.apart
            (all_ahead m.driver.drives h.sound.driver.ascending) end.driven end.output.stands;
        numbers = n;
      }

  all_found : (paths : List DrivePath) → AllByRecursion (IsPathOf m.driver) paths → AllByRecursion HasNumbers paths
      → AllByRecursion (IsFoundPath m) paths
  all_found [] p n = tt
  all_found (path ∷ paths) p n = (found_path path p.0 n.0, all_found paths p.1 n.1)

  pub paths_found : AllByRecursion (IsFoundPath m) m.driver.paths
  paths_found =
      all_found m.driver.paths (recursion_from_All (IsPathOf m.driver) m.driver.paths h.sound.driver.paths)
      (recursion_from_All HasNumbers m.driver.paths h.paths)

  named_paths : (paths : List DrivePath) → AllByRecursion (IsFoundPath m) paths → AllByRecursion (IsNamedPath m) paths
  named_paths [] f = tt
  named_paths (path ∷ paths) f = (record { from = f.0.from; to = f.0.to; numbers = f.0.numbers }, named_paths paths f.1)

  pub driver_named : IsNamedDriver m
  driver_named = record {
    name = h.name;
    ports = ports_named;
    terminals = terminals_named;
    core = h.core;
    paths =
        named_paths m.driver.paths paths_found;
  }
