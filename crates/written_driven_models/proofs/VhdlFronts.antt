-- The header, the signals and the core of a written driver are read from their tokens.
use Rattle.std.proofs.Common.{◌≡◌, ℕ, zero, suc, ◌≤◌, true, false, List, [], ◌∷◌, length, Some, refl, arith, codes}
use Rattle.std.specs.List.{AllByRecursion}
use Rattle.written_modules.specs.grammar_rules.Rule.{Stops}
use Rattle.written_modules.specs.udp_tables.declared.models.VPort.{VPort}
use Rattle.written_entities.specs.vhdl_tokens.Words.{is_reserved, is_used, vhdl_words, used_words}
use Rattle.written_entities.specs.vhdl_tokens.Tokens.{is_name}
use Rattle.written_entities.specs.vhdl_tokens.Spelling.{is_same}
use Rattle.written_entities.specs.vhdl_grammar.VhdlRules.{begins}
use Rattle.driver_models.specs.declared.model.DriverModel.{DriverModel}
use Rattle.driver_models.specs.Cores.{Core, core_name}
use Rattle.driver_models.specs.Terminals.{core_terminals}
use Rattle.driver_texts.specs.NumberedPorts.{NumberedPort, ports_of}
use Rattle.driver_texts.specs.PortNames.{outputs}
use Rattle.vhdl_drivers.specs.DriverText.{data_word, enable_word, driven_count}
use Rattle.vhdl_drivers.specs.DriverSections.{driver_packages, not_driven, driver_name, this_driver}
use Rattle.vhdl_drivers.specs.DriverSections.{header_end}
use Rattle.vhdl_drivers.specs.DriverSections.{driver_ports, section_front, driver_signals, core_start}
use Rattle.vhdl_drivers.specs.DriverSections.{port_map}
use Rattle.vhdl_drivers.specs.DriverSections.{core_call, section_core}
use Rattle.vhdl_drivers.specs.WellFormed.{IsWrittenDriver, IsWellFormedDriver}
use Rattle.written_modules.proofs.grammar_reader.Fronts.{each}
use Rattle.written_modules.proofs.grammar_reader.Derivations.{Reads, gives, token, in_turn}
use Rattle.written_entities.proofs.Names.{entity_named}
use Rattle.written_entities.proofs.NameReading.{expected, three_expected, four_expected, six_expected, newly_named, known_as}
use Rattle.written_entities.proofs.NameReading.{so_named}
use Rattle.written_entities.proofs.HeaderReading.{packages_read, ports_front, AreDeclared, port_list_read}
use Rattle.written_driven_models.proofs.WholeSections.{front_of, call_of}
use Rattle.written_driven_models.proofs.NumberedDrives.{Numbered}
use Rattle.written_driven_models.proofs.DriverPorts as sound
use Rattle.written_driven_models.proofs.WireReading.{wires_read}
use Rattle.written_driven_models.proofs.TerminalReading.{IsTerminal}
use Rattle.written_driven_models.proofs.TerminalReading as terminals
use Rattle.written_driven_models.proofs.VhdlTokens.{driver_packages_front, driver_header_front, signals_front, listed_front}
use Rattle.written_driven_models.proofs.VhdlTokens.{next_terminal_front, terminals_front, core_front, some_port}
use Rattle.written_driven_models.proofs.VhdlFacts.{language, terminals_free, ports_declared}

-- The header.

packages : (s : List (List ℕ)) → Reads driver_packages (driver_packages_front s) tt s
unfolding driver_packages
packages s = in_turn six_expected packages_read

-- a name that is not the architecture's
other_name : (x : List ℕ) (s : List (List ℕ)) → is_same x (codes "driven") ≡ false → Reads not_driven (x ∷ s) tt (x ∷ s)
other_name x s e = record { taken = (x, s, refl, rw e refl, refl) }

same_driver : (m : DriverModel) (s : List (List ℕ)) → IsWrittenDriver m → Reads (this_driver m.name) (m.name ∷ s) tt s
unfolding this_driver
same_driver m s w = in_turn (other_name m.name s w.other) (so_named (Some m.name) (entity_named m.name w.name) refl)

end_read : (m : DriverModel) (s : List (List ℕ)) → IsWrittenDriver m →
    Reads (header_end m.name) (codes "end" ∷ m.name ∷ codes ";" ∷ codes "architecture" ∷ codes "driven" ∷ codes "of" ∷ m.name
    ∷ codes "is" ∷ s) tt s
unfolding header_end
end_read m s w =
    in_turn expected (in_turn (same_driver m
    (codes ";" ∷ codes "architecture" ∷ codes "driven" ∷ codes "of" ∷ m.name ∷ codes "is" ∷ s) w)
    (in_turn four_expected (in_turn (same_driver m (codes "is" ∷ s) w) expected)))

ports_read : (ports : List VPort) (s : List (List ℕ)) → 1 ≤ length ports → AreDeclared [] ports
    → Reads driver_ports (ports_front ports s) ports s
unfolding driver_ports
ports_read [] s some h = absurd (omega (arith, some))
ports_read (port ∷ ports) s some h = in_turn expected (port_list_read [] port ports s h)

-- The signals.

signals_read : (count : ℕ) (s : List (List ℕ)) → 1 ≤ count → Stops (begins (codes "signal")) s
    → Reads driver_signals (signals_front count s) count s
unfolding driver_signals
signals_read zero s some stop = absurd (omega (arith, some))
signals_read (suc n) s some stop = wires_read language (codes "signal") (codes ":" ∷ codes "std_ulogic" ∷ codes ";" ∷ []) n s stop

-- The core.

terminals_read : (total count : ℕ) (ports : List VPort) (ats : List NumberedPort) (drives : List ℕ) (s : List (List ℕ))
    → Numbered total 0 0 drives ports ats →
    AllByRecursion (IsTerminal is_name is_same data_word count) ats → 1 ≤ count → length drives ≡ count
    → Stops (begins (codes ",")) s →
    Reads (core_terminals is_name is_same data_word enable_word count ports)
    (each next_terminal_front ats (listed_front enable_word count s)) drives s
terminals_read total zero ports ats drives s h all some long stop = absurd (omega (arith, some))
terminals_read total (suc n) ports ats drives s h all some long stop =
    terminals.terminals_read language total n ports ats drives s h all long stop

instance_is_name : is_name (codes "u_1") ≡ true
unfolding is_reserved is_used vhdl_words used_words
instance_is_name = refl

start_read : (s : List (List ℕ)) → Reads core_start
    (codes "begin" ∷ codes "u_1" ∷ codes ":" ∷ codes "entity" ∷ codes "work" ∷ codes "." ∷ s) tt s
unfolding core_start
start_read s = in_turn expected (in_turn (token (rw instance_is_name refl)) four_expected)

module _ (names : List (List ℕ)) (cores : List Core) (m : DriverModel) (h : IsWellFormedDriver names cores m) where
  pub front_read : (s : List (List ℕ)) → Reads (section_front names) (driver_header_front m s) (front_of m) s
  unfolding section_front driver_name
  front_read s =
      let header_end : List (List ℕ) =
      codes "end" ∷ m.name ∷ codes ";" ∷ codes "architecture" ∷ codes "driven" ∷ codes "of" ∷ m.name ∷ codes "is" ∷ s in
      in_turn (packages (codes "entity" ∷ m.name ∷ codes "is" ∷ ports_front m.ports header_end))
      (in_turn expected (in_turn (in_turn (other_name m.name (codes "is" ∷ ports_front m.ports header_end) h.written.other)
      (newly_named names (entity_named m.name h.written.name) h.new))
      (in_turn expected (in_turn (ports_read m.ports header_end (some_port m h.written) (ports_declared m h.written h.apart))
      (in_turn (end_read m s h.written) gives)))))

  map_read : (s : List (List ℕ)) → Reads (port_map m.ports (driven_count m))
      (codes "port" ∷ codes "map" ∷ codes "(" ∷ terminals_front m (codes ")" ∷ codes ";" ∷ s)) m.driver.drives s
  unfolding port_map
  map_read s =
      in_turn three_expected (in_turn (terminals_read (length (outputs m.ports)) (driven_count m) m.ports
      (ports_of m) m.driver.drives (codes ")" ∷ codes ";" ∷ s)
      (sound.numbered m h.written.sound) (terminals_free m h.written) h.written.some refl refl)
      (in_turn expected (in_turn expected gives)))

  pub core_read : (s : List (List ℕ))
      → Reads (section_core cores m.ports) (signals_front (driven_count m) (core_front m s)) (call_of m) s
  unfolding section_core core_call
  core_read s =
      in_turn (signals_read (driven_count m) (core_front m s) h.written.some refl)
      (in_turn (start_read (m.core ∷ codes "port" ∷ codes "map" ∷ codes "(" ∷ terminals_front m (codes ")" ∷ codes ";" ∷ s)))
      (in_turn (known_as (core_name is_same cores m.ports (driven_count m)) (entity_named m.core h.written.core) (rw h.fits refl))
      (in_turn (map_read s) gives)))
