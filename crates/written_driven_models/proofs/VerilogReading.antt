-- A written driver is read from the tokens of its text.
use Rattle.std.proofs.Common.{◌≡◌, ℕ, zero, suc, ◌+◌, ◌<◌, ◌≤◌, Bool, true, false, not, nat_lt, ◌==◌, List, [], ◌∷◌, ◌++◌, length}
use Rattle.std.proofs.Common.{map, Some, slice_get, refl, sym, ap, subst, ◌∙◌, arith, codes, decimal, append_assoc}
use Rattle.std.specs.List.{AllByRecursion}
use Rattle.std.specs.Str.{bytes_eq}
use Rattle.std.proofs.lemmas.Bool.{eq-eqb, ltb-false}
use Rattle.std.proofs.lemmas.List.{append-nil}
use Rattle.written_modules.specs.grammar_rules.Rule.{Stops}
use Rattle.written_modules.specs.grammar_rules.Rule as r
use Rattle.written_modules.specs.verilog_tokens.Words.{is_verilog_word, verilog_words}
use Rattle.written_modules.specs.verilog_tokens.Tokens.{is_name}
use Rattle.written_modules.specs.udp_tables.declared.models.VPort.{VPort}
use Rattle.written_modules.specs.udp_tables.VerilogRules.{begins, this_name}
use Rattle.written_modules.specs.verilog_grammar.VerilogModules.{port_names}
use Rattle.written_modules.specs.verilog_grammar.WellFormed.{IsName, AreApart}
use Rattle.driven_traces.specs.declared.delays.DrivePath.{DrivePath}
use Rattle.driver_models.specs.declared.model.DriverModel.{DriverModel}
use Rattle.driver_models.specs.PathEnds.{input_number, drive_number}
use Rattle.driver_models.specs.Cores.{Core, core_name}
use Rattle.driver_models.specs.Terminals.{all_numbered}
use Rattle.driver_models.specs.Terminals as terminal_rules
use Rattle.driver_texts.specs.NumberedPorts.{NumberedPort, ports_of, driven_names}
use Rattle.driver_texts.specs.PortNames.{inputs, outputs, name_at, driven_name}
use Rattle.verilog_drivers.specs.DriverText.{data_word, enable_word}
use Rattle.verilog_drivers.specs.DriverSections.{driver_header, driver_ports, driver_wires, core_call, buffer_inputs}
use Rattle.verilog_drivers.specs.DriverSections.{buffer}
use Rattle.verilog_drivers.specs.DriverSections.{buffers, drive_path, next_drive_path, drive_block, drive_paths}
use Rattle.verilog_drivers.specs.DriverSections.{section_front, section_body, section_end}
use Rattle.verilog_drivers.specs.DriverSections.{section_rest, verilog_section_grammar}
use Rattle.driver_texts.specs.Sections.{section}
use Rattle.verilog_drivers.specs.WellFormed.{IsWellFormedDriver}
use Rattle.written_modules.proofs.grammar_reader.Fronts.{each}
use Rattle.written_modules.proofs.grammar_reader.Derivations.{Reads, to_same, gives, in_turn, chosen, passed, no_turn}
use Rattle.written_modules.proofs.grammar_reader.Derivations.{turn, turns, through, goes_on}
use Rattle.written_modules.proofs.grammar_reader.Derivations as derivations
use Rattle.written_modules.proofs.grammar_reader.ItemPlaces.{get_at, one_longer, at_place}
use Rattle.written_modules.proofs.Words.{name_is, unlike_word}
use Rattle.written_modules.proofs.PrimitiveTokens.{declared}
use Rattle.written_modules.proofs.ModuleTokens.{IsNamedPort, listed, input_tokens, output_tokens}
use Rattle.written_modules.proofs.NameReading.{expected, newly_named, known_as, so_named}
use Rattle.written_modules.proofs.PortReading.{ArePorts, ports_read, inputs_read, outputs_read}
use Rattle.written_modules.proofs.PortReading as headers
use Rattle.written_modules.proofs.DeclarationReading.{Other, stops, each_other, where_other}
use Rattle.written_modules.proofs.PathReading.{number_read}
use Rattle.written_driven_models.proofs.NumberedDrives.{Numbered, at_end, an_input, plain, driven}
use Rattle.written_driven_models.proofs.DriverPorts.{drives_below, numbered as its_numbers}
use Rattle.written_driven_models.proofs.WireReading.{wires_read}
use Rattle.written_driven_models.proofs.TerminalReading.{IsTerminal, terminals_read}
use Rattle.written_driven_models.proofs.TerminalReading as terminals
use Rattle.written_driven_models.proofs.WholeSections.{front_of, call_of, it_is}
use Rattle.written_driven_models.proofs.VerilogTokens.{header_tokens, core_tokens, buffer_tokens, path_tokens, paths_by}
use Rattle.written_driven_models.proofs.VerilogTokens.{paths_tokens}
use Rattle.written_driven_models.proofs.VerilogTokens.{inner_tokens, data_name, enable_name}
use Rattle.written_driven_models.proofs.VerilogPorts.{verilog, IsFoundPath, ports_named, terminals_free, paths_found}

-- Wires.

-- the declarations of so many wires to buffers' inputs, and of as many to enables
abbrev wires_declared : ℕ → List (List ℕ) → List (List ℕ)
wires_declared count s = each (declared (codes "wire")) (all_numbered data_word count)
    (each (declared (codes "wire")) (all_numbered enable_word count) s)

wires : (count : ℕ) (s : List (List ℕ)) → 1 ≤ count → Stops (begins (codes "wire")) s
    → Reads driver_wires (wires_declared count s) count s
unfolding driver_wires
wires zero s some stop = absurd (omega (arith, some))
wires (suc n) s some stop = wires_read verilog (codes "wire") (codes ";" ∷ []) n s stop

-- The core.

all_terminals : (total count : ℕ) (ports : List VPort) (ats : List NumberedPort) (drives : List ℕ) (s : List (List ℕ))
    → Numbered total 0 0 drives ports ats →
    AllByRecursion (IsTerminal is_name bytes_eq data_word count) ats → 1 ≤ count → length drives ≡ count
    → Stops (begins (codes ",")) s →
    Reads (terminal_rules.core_terminals is_name bytes_eq data_word enable_word count ports)
    (terminals.core_tokens data_word enable_word count ats s) drives s
all_terminals total zero ports ats drives s h all some long stop = absurd (omega (arith, some))
all_terminals total (suc n) ports ats drives s h all some long stop =
    terminals_read verilog total n ports ats drives s h all long stop

instance_is_name : is_name (codes "lib_u") ≡ true
unfolding is_verilog_word verilog_words
instance_is_name = refl

-- Buffers.

word_and_number : (word : List ℕ) (n : ℕ) {s : List (List ℕ)} → IsName (word ++ decimal n)
    → Reads (this_name (Some (word ++ decimal n))) ((word ++ decimal n) ∷ s) tt s
word_and_number word n h = so_named (Some (word ++ decimal n)) h refl

buffer_inputs_read : (number : ℕ) (s : List (List ℕ)) →
    Reads (buffer_inputs number) (codes "," ∷ (data_word ++ decimal (number + 1)) ∷ codes ","
    ∷ (enable_word ++ decimal (number + 1)) ∷ codes ")" ∷ codes ";" ∷ s) (number + 1) s
unfolding buffer_inputs
buffer_inputs_read number s =
    in_turn expected (in_turn (word_and_number data_word (number + 1) (data_name (number + 1)))
    (in_turn expected (in_turn (word_and_number enable_word (number + 1) (enable_name (number + 1)))
    (in_turn expected (in_turn expected gives)))))

one_buffer : (names : List (List ℕ)) (number : ℕ) (x : List ℕ) (s : List (List ℕ)) → IsName x → slice_get names number ≡ Some x →
    Reads (buffer names number) (codes
    "(" ∷ x ∷ codes "," ∷ (data_word ++ decimal (number + 1)) ∷ codes "," ∷ (enable_word ++ decimal (number + 1)) ∷ codes ")"
    ∷ codes ";" ∷ s) (number + 1) s
unfolding buffer
one_buffer names number x s n e = in_turn expected (in_turn (so_named (slice_get names number) n e) (buffer_inputs_read number s))

buffers_from : (names : List (List ℕ)) {total : ℕ} (place number : ℕ) (left : List ℕ) (ports : List VPort)
    (ats : List NumberedPort) (before : List (List ℕ)) (s : List (List ℕ)) →
    Numbered total place number left ports ats → AllByRecursion IsNamedPort ports → before ++ driven_names ats ≡ names
    → length before ≡ number → Stops (begins (codes "bufif1")) s →
    Reads (r.Many (λ _. begins (codes "bufif1")) (λ number _. buffer names number) number) (each buffer_tokens ats s)
    (length names) s
buffers_from names place number left [] [] before s at_end n same long stop =
    let all : number ≡ length names = sym long ∙ ap length (sym (append-nil before) ∙ same) in
    to_same all (no_turn stop)
buffers_from names place number left [] (at ∷ ats) before s h n same long stop = elim h [ ]
buffers_from names place number left (port ∷ ports) [] before s h n same long stop = elim h [ ]
buffers_from names place number left (port ∷ ports) (at ∷ ats) before s (an_input _ e h) n same long stop =
    buffers_from names place number left ports ats before s h n.1 same long stop
buffers_from names place number left (port ∷ ports) (at ∷ ats) before s (plain _ e h) n same long stop =
    buffers_from names (place + 1) number left ports ats before s h n.1 same long stop
buffers_from names place number (_ ∷ left) (port ∷ ports) (at ∷ ats) before s (driven _ e h) n same long stop =
    let its_name : slice_get names number ≡ Some port.name =
    ap (λ (l : List (List ℕ)). slice_get l number) (sym same) ∙ ap (slice_get (before ++ port.name ∷ driven_names ats)) (sym long)
    ∙ get_at before port.name (driven_names ats) in
    turns (turn refl (one_buffer names number port.name (each buffer_tokens ats s) n.0 its_name))
    (buffers_from names (place + 1) (number + 1) left ports ats (before ++ port.name ∷ []) s h n.1
    (append_assoc before (port.name ∷ []) (driven_names ats) ∙ same)
    (sym (one_longer before port.name) ∙ ap (λ k. k + 1) long) stop)

buffers_read : (total : ℕ) (drives : List ℕ) (ports : List VPort) (ats : List NumberedPort) (s : List (List ℕ))
    → Numbered total 0 0 drives ports ats → AllByRecursion IsNamedPort ports →
    Stops (begins (codes "bufif1")) s → Reads (buffers (driven_names ats)) (each buffer_tokens ats s) tt s
unfolding buffers
buffers_read total drives ports ats s h n stop =
    in_turn (buffers_from (driven_names ats) 0 0 drives ports ats [] s h n refl refl stop)
    (goes_on (length (driven_names ats) == length (driven_names ats)) s
    (eq-eqb (length (driven_names ats)) (length (driven_names ats)) refl))

-- Paths.

path_read : (m : DriverModel) (path : DrivePath) (s : List (List ℕ)) → IsFoundPath m path →
    Reads (drive_path m.ports m.driver.drives)
    (name_at (inputs m.ports) path.from ∷ codes "=>" ∷ driven_name m path.drive ∷ codes ")" ∷ codes "=" ∷ codes
    "(" ∷ decimal path.rise ∷ codes "," ∷ decimal path.fall ∷ codes ")" ∷ codes ";" ∷ s) path s
unfolding drive_path
path_read m path s h =
    in_turn (known_as (input_number bytes_eq m.ports) h.from h.start)
    (in_turn expected (in_turn (known_as (drive_number bytes_eq m.ports m.driver.drives) h.to h.end)
    (in_turn expected (in_turn expected
    (in_turn expected (in_turn (number_read path.rise h.numbers.rise)
    (in_turn expected (in_turn (number_read path.fall h.numbers.fall)
    (in_turn expected (in_turn expected gives))))))))))

path_turn : (m : DriverModel) (paths : List DrivePath) → AllByRecursion (IsFoundPath m) paths
    → (before : List DrivePath) (path : DrivePath) (after : List DrivePath) (s : List (List ℕ)) →
    before ++ path ∷ after ≡ paths → derivations.Turn
    (λ _. begins (codes "(")) (λ paths _. next_drive_path m.ports m.driver.drives paths) before (path_tokens m path s)
    (before ++ path ∷ []) s
unfolding next_drive_path
path_turn m paths h before path after s same =
    turn refl (in_turn (path_read m path s
    (at_place (IsFoundPath m) before path after (subst (AllByRecursion (IsFoundPath m)) (sym same) h))) gives)

block_read : (m : DriverModel) (s : List (List ℕ)) → AllByRecursion (IsFoundPath m) m.driver.paths →
    Reads (drive_block m.ports m.driver.drives) (each (path_tokens m) m.driver.paths (codes "endspecify" ∷ s)) m.driver.paths s
unfolding drive_block
block_read m s h =
    in_turn (through (λ (l : List DrivePath). l) (path_tokens m) [] m.driver.paths (path_turn m m.driver.paths h)
    (codes "endspecify" ∷ s) refl) (in_turn expected gives)

paths_read : (m : DriverModel) (s : List (List ℕ)) → AllByRecursion (IsFoundPath m) m.driver.paths
    → Stops (begins (codes "specify")) s →
    Reads (drive_paths m.ports m.driver.drives) (paths_tokens m s) m.driver.paths s
unfolding drive_paths
paths_read m s h stop = by (nat_lt 0 (length m.driver.paths)) refl
  where
    none : (paths : List DrivePath) → nat_lt 0 (length paths) ≡ false → [] ≡ paths
    none [] e = refl
    none (path ∷ paths) e = absurd (let l = ltb-false 0 (length (path ∷ paths)) e in omega (arith, l))

    by : (b : Bool) → nat_lt 0 (length m.driver.paths) ≡ b
        → Reads (drive_paths m.ports m.driver.drives) (paths_by b m s) m.driver.paths s
    by true e = chosen refl (block_read m s h)
    by false e = to_same (none m.driver.paths e) (passed stop gives)

-- The header and the ports.

-- nothing is declared but the ports
abbrev AreAlone : List VPort → Type 0
AreAlone ports = ArePorts ports []

header_read : (ports : List VPort) (s : List (List ℕ)) → AreAlone ports → 0 < length ports →
    Reads driver_header (codes "(" ∷ listed ports (codes ")" ∷ codes ";" ∷ s)) (map headers.plain ports) s
unfolding driver_header
header_read [] s h some = absurd (omega (arith, some))
header_read (port ∷ ports) s h some =
    in_turn expected (in_turn (record {
      taken = (
        port.name,
        each Rattle.written_modules.proofs.ModuleTokens.next_port ports (codes ")" ∷ codes ";" ∷ s),
        refl,
        rw
            (name_is port.name h.named.0) refl,
        refl,
      );
    })
    (in_turn (ports_read (port ∷ ports) [] (codes ";" ∷ s) h) (in_turn expected (in_turn expected gives))))

-- what stands behind the declarations of ports begins with none of their words
record EndsPorts (s : List (List ℕ)) : Type 0 where
  input : Other (codes "input") s
  output : Other (codes "output") s

all_ports_read : (ports : List VPort) (s : List (List ℕ)) → AreAlone ports → 0 < length ports → EndsPorts s →
    Reads driver_ports (codes "(" ∷ listed ports (codes ")" ∷ codes ";" ∷ each input_tokens ports (each output_tokens ports s)))
    ports s
unfolding driver_ports
all_ports_read ports s h some e =
    let outputs_tokens : List (List ℕ) = each output_tokens ports s in
    let no_input : Other (codes "input") outputs_tokens =
    each_other (codes "input") output_tokens
    (λ port q o. where_other (codes "input") (codes "output") port.name (not port.input) q refl o) ports s e.input in
    let found = inputs_read ports [] outputs_tokens h (stops (codes "input") outputs_tokens no_input) in
    in_turn (header_read ports (each input_tokens ports outputs_tokens) h some)
    (in_turn found.1 (in_turn (outputs_read ports s h.named (stops (codes "output") s e.output)) gives))

wires_other : (x : List ℕ) (count : ℕ) (s : List (List ℕ)) → bytes_eq (codes "wire") x ≡ false → Other x s
    → Other x (wires_declared count s)
wires_other x count s e o =
    each_other x (declared (codes "wire")) (λ y q p. e) (all_numbered data_word count)
    (each (declared (codes "wire")) (all_numbered enable_word count) s)
    (each_other x (declared (codes "wire")) (λ y q p. e) (all_numbered enable_word count) s o)

some_ports : (ports : List VPort) (drives : List ℕ) → 1 ≤ length drives → AllByRecursion (λ p. p < length (outputs ports)) drives
    → 0 < length ports
some_ports ports [] some h = absurd (omega (arith, some))
some_ports [] (p ∷ drives) some h = absurd (let low = h.0 in omega (arith, low))
some_ports (port ∷ ports) (p ∷ drives) some h = omega arith

-- All of it.

module _ (names : List (List ℕ)) (cores : List Core) (m : DriverModel) (h : IsWellFormedDriver names cores m) where
  abbrev count : ℕ
  count = length m.driver.drives

  alone : AreAlone m.ports
  alone = record { named = ports_named names cores m h; apart = subst AreApart (sym (append-nil (port_names m.ports))) h.apart }

  front_read : (s : List (List ℕ)) → EndsPorts s →
      Reads (section_front names) (codes "`celldefine" ∷ header_tokens m
      (each input_tokens m.ports (each output_tokens m.ports s))) (front_of m) s
  unfolding section_front
  front_read s e =
      in_turn expected (in_turn expected (in_turn (newly_named names h.name h.new)
      (in_turn (all_ports_read m.ports s alone (some_ports m.ports m.driver.drives h.some (drives_below m h.sound)) e) gives)))

  core_read : (s : List (List ℕ)) → Reads (core_call cores m.ports count) (core_tokens m s) (call_of m) s
  unfolding core_call
  core_read s =
      in_turn (known_as (core_name bytes_eq cores m.ports count) h.core (rw h.fits refl))
      (in_turn (derivations.token (rw instance_is_name refl))
      (in_turn expected (in_turn (all_terminals (length (outputs m.ports)) count m.ports (ports_of m) m.driver.drives
      (codes ")" ∷ codes ";" ∷ s) (its_numbers m h.sound)
      (terminals_free names cores m h) h.some refl refl) (in_turn expected (in_turn expected gives)))))

  no_buffer : (b : Bool) (s : List (List ℕ)) → Stops (begins (codes "bufif1")) s
      → Stops (begins (codes "bufif1")) (paths_by b m s)
  no_buffer true s stop = refl
  no_buffer false s stop = stop

  no_wire : (s : List (List ℕ)) → Other (codes "wire") (core_tokens m s)
  unfolding is_verilog_word verilog_words
  no_wire s = unlike_word m.core (codes "wire") refl h.core

  no_port : (s : List (List ℕ)) → EndsPorts (wires_declared count (core_tokens m s))
  unfolding is_verilog_word verilog_words
  no_port s = record {
    input = wires_other (codes "input") count (core_tokens m s) refl (unlike_word m.core (codes "input") refl h.core);
    output = wires_other (codes "output") count (core_tokens m s) refl (unlike_word m.core (codes "output") refl h.core);
  }

  end_read : Reads section_end (codes "endmodule" ∷ codes "`endcelldefine" ∷ []) tt []
  unfolding section_end
  end_read = in_turn expected (in_turn expected (record { taken = (refl, refl, refl) }))

  pub section_read : Reads (section verilog_section_grammar names cores)
      (codes "`celldefine" ∷ inner_tokens m (codes "`endcelldefine" ∷ [])) m []
  unfolding section section_rest section_body
  section_read =
      let end : List (List ℕ) = codes "endmodule" ∷ codes "`endcelldefine" ∷ [] in
      let instances : List (List ℕ) = each buffer_tokens (ports_of m) (paths_tokens m end) in
      let behind_wires : List (List ℕ) = core_tokens m instances in
      in_turn (front_read (wires_declared count behind_wires) (no_port instances))
      (in_turn
      (in_turn (wires count behind_wires h.some (stops (codes "wire") behind_wires (no_wire instances)))
      (in_turn (core_read instances)
      (in_turn (buffers_read (length (outputs m.ports)) m.driver.drives m.ports (ports_of m) (paths_tokens m end)
      (its_numbers m h.sound) (ports_named names cores m h) (no_buffer (nat_lt 0 (length m.driver.paths)) end refl))
      (in_turn (paths_read m end (paths_found names cores m h) refl) gives))))
      (in_turn end_read (to_same (it_is m h.sound) gives)))
