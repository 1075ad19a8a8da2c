-- The tokens of a written driver, up to the words that end its section.
use Rattle.std.proofs.Common.{◌≡◌, ℕ, zero, suc, ◌+◌, ◌-◌, ◌<◌, ◌≤◌, ◌^◌, Bool, true, false, not, ◌&&◌, nat_eq}
use Rattle.std.proofs.Common.{List, [], ◌∷◌, ◌++◌, length, Option, Some, refl, sym, ap, ◌∙◌, arith, subst, codes}
use Rattle.std.proofs.Common.{decimal, flat_map, append_assoc}
use Rattle.std.specs.List.{AllByRecursion}
use Rattle.std.specs.Char.{is_ascii_alphabetic}
use Rattle.std.proofs.lemmas.Bool.{and_parts}
use Rattle.std.proofs.lemmas.List.Elements.{recursion_from_All}
use Rattle.std.proofs.lemmas.List.Sums.{count_by-le-length}
use Rattle.written_modules.specs.udp_tables.declared.models.VPort.{VPort}
use Rattle.written_entities.specs.vhdl_tokens.Words.{is_reserved, is_used, vhdl_words, used_words}
use Rattle.written_entities.specs.vhdl_tokens.Tokens.{Token, lexis, is_name}
use Rattle.written_entities.specs.vhdl_tokens.Spelling.{is_same}
use Rattle.written_entities.specs.vhdl_grammar.VhdlDeclarations.{input_names}
use Rattle.written_entities.specs.vhdl_grammar.WellFormed.{IsNumber, IsCount}
use Rattle.written_entities.specs.vhdl_writer.Joined.{numbered_texts, apart_text}
use Rattle.written_entities.specs.vhdl_writer.Declarations.{some_ports_text}
use Rattle.driven_traces.specs.declared.delays.DrivePath.{DrivePath}
use Rattle.driven_traces.specs.Drivers.{IsPathOf}
use Rattle.driver_models.specs.declared.model.DriverModel.{DriverModel}
use Rattle.driver_models.specs.Terminals.{all_numbered}
use Rattle.driver_models.specs.Wires.{numbered}
use Rattle.driver_texts.specs.NumberedPorts.{NumberedPort, ports_of}
use Rattle.driver_texts.specs.NumberedNames.{next_name_text, listed_names_text}
use Rattle.driver_texts.specs.CoreTerminals.{terminal_by, terminals_text}
use Rattle.driver_texts.specs.PortNames.{inputs, outputs, name_at}
use Rattle.vhdl_drivers.specs.DriverText.{data_word, enable_word, driven_count, driver_header_text, signal_text}
use Rattle.vhdl_drivers.specs.DriverText.{signals_text}
use Rattle.vhdl_drivers.specs.DriverText.{core_text, process_text, own_paths, driven_variables_text}
use Rattle.vhdl_drivers.specs.DriverText.{buffer_text}
use Rattle.vhdl_drivers.specs.DriverText.{drive_path_text, driven_line, statements_text}
use Rattle.vhdl_drivers.specs.WellFormed.{HasNumbers, IsWrittenDriver}
use Rattle.written_modules.specs.driver_sections.Marks.{are_next}
use Rattle.written_modules.specs.section_outlines.Marked.{ends_next}
use Rattle.written_modules.specs.section_outlines.VhdlMarks.{vhdl_marks}
use Rattle.written_modules.proofs.section_outlines.Offsets as offsets
use Rattle.written_modules.proofs.grammar_reader.Fronts.{Front, Anything, each}
use Rattle.written_modules.proofs.grammar_reader.Passages.{passes_found, unless_barred}
use Rattle.written_modules.proofs.grammar_reader.ItemPlaces.{at_place}
use Rattle.written_modules.proofs.grammar_reader.Spelling.{literal, joins, behind, each_spelled}
use Rattle.written_entities.proofs.Spelling.{vhdl, Spells, SpellsInside, inside}
use Rattle.written_entities.proofs.Names.{IsNamed, entity_named}
use Rattle.written_entities.proofs.Words.{Ends, name, part, number, word_alone, word_token}
use Rattle.written_entities.proofs.Parts.{part_behind, fact_at, place_below, counted_parts}
use Rattle.written_entities.proofs.Counting.{counted, counted_anywhere, apart_front, apart_spelled}
use Rattle.written_entities.proofs.Elements.{comma, call_end, indented}
use Rattle.written_entities.proofs.HeaderReading.{package_front, ports_front, is_word, AreNamed, some_ports_spelled}
use Rattle.written_entities.proofs.VariableTokens.{assigned_front, assigned_spelled}
use Rattle.written_entities.proofs.PathReading.{path_start, event_word, rise_end, index_is, index_fits}
use Rattle.written_entities.proofs.AssignmentTokens.{call_front, assignment_front, assignment_spelled}
use Rattle.written_entities.proofs.EntityReading.{begin_word}
use Rattle.written_driven_models.proofs.VhdlNames.{NamedPort, NamedTerminal, signals_named, ports_named, inputs_named}
use Rattle.written_driven_models.proofs.VhdlNames.{input_named}
use Rattle.written_driven_models.proofs.VhdlNames.{output_named, terminals_named, all_filtered, few_filtered}

-- The header.

abbrev pub driver_packages_front : Front
driver_packages_front s = codes "use" ∷ codes "work" ∷ codes "." ∷ codes "all" ∷ codes ";" ∷ codes "library" ∷ package_front s

abbrev pub driver_header_front : DriverModel → Front
driver_header_front m s =
    driver_packages_front (codes "entity" ∷ m.name ∷ codes "is" ∷ ports_front m.ports
    (codes "end" ∷ m.name ∷ codes ";" ∷ codes "architecture" ∷ codes "driven" ∷ codes "of" ∷ m.name ∷ codes "is" ∷ s))

packages_word : SpellsInside Anything false
    (codes "use work.all;\nlibrary IEEE;\nuse IEEE.std_logic_1164.all;\nuse IEEE.VITAL_Timing.all;\nuse IEEE.VITAL_Primitives.all;\nentity ")
    (λ s. driver_packages_front (codes "entity" ∷ s)) false
unfolding is_reserved is_used vhdl_words used_words
packages_word = literal (λ r. refl) refl

-- bytes that begin, behind a space, with another token than the word `driven`
abbrev Other : List ℕ → Type 0
Other r = ends_next vhdl vhdl_marks false (codes "end") (32 ∷ r) ≡ false

end_word : SpellsInside Other false (codes "end ") (λ s. codes "end" ∷ s) false
unfolding is_reserved is_used vhdl_words used_words
end_word = record {
  passes = λ r p. passes_found lexis (ends_next vhdl vhdl_marks) (codes "end ") r false (codes "end" ∷ []) false
      (by (ends_next vhdl vhdl_marks false (codes "end") (32 ∷ r)) p);
}
  where
    by : (b : Bool) → b ≡ false → unless_barred (codes "end") (Some ([], false)) b ≡ Some (codes "end" ∷ [], false)
    by true e = absurd cc
    by false e = refl

architecture_word : {t : Bool} → SpellsInside Anything t (codes ";\narchitecture driven of ")
    (λ s. codes ";" ∷ codes "architecture" ∷ codes "driven" ∷ codes "of" ∷ s) false
unfolding is_reserved is_used vhdl_words used_words
architecture_word = literal (λ r. refl) refl

other_letters : (b : ℕ) (w r : List ℕ) → IsNamed (b ∷ w) → is_same (b ∷ w) (codes "driven") ≡ false → Ends r → Other (b ∷ w ++ r)
other_letters b w r n other e =
    let p = and_parts (is_ascii_alphabetic b) _ n.identifier in
    ap (λ (found : List Token × Option ℕ). are_next is_same (codes "driven" ∷ []) found.0)
    (offsets.over_separator lexis (is_name (codes "end")) 0 32 [] (b ∷ w ++ r) refl)
    ∙ offsets.words_at lexis is_same (codes "driven" ∷ []) (is_name (codes "end")) 1 b w r (word_alone b (w ++ r) p.0)
    (word_token (is_name (codes "end")) b w r p.0 p.1 e)
    ∙ ap (λ (q : Bool). q && true) other

-- a name that is not `driven`
other_named : (x rest r : List ℕ) → IsNamed x → is_same x (codes "driven") ≡ false → Ends (rest ++ r) → Other ((x ++ rest) ++ r)
other_named [] rest r n other e = absurd (cc n.identifier)
other_named (b ∷ w) rest r n other e = subst Other (sym (append_assoc (b ∷ w) rest r)) (other_letters b w (rest ++ r) n other e)

-- the name of the driver
own_name : {t : Bool} (m : DriverModel) → IsWrittenDriver m → SpellsInside Ends t m.name (λ s. m.name ∷ s) true
own_name m w = inside (name m.name (entity_named m.name w.name))

-- a driver has a port
pub some_port : (m : DriverModel) → IsWrittenDriver m → 1 ≤ length m.ports
some_port m w = by m.driver.drives w.some
    (recursion_from_All (λ place. place < m.driver.outputs) m.driver.drives w.sound.driver.outputs)
  where
    by : (drives : List ℕ) → 1 ≤ length drives → AllByRecursion (λ place. place < m.driver.outputs) drives → 1 ≤ length m.ports
    by [] some h = absurd (omega (arith, some))
    by (place ∷ drives) some h = omega
        (arith, h.0, w.sound.outputs, count_by-le-length (λ (port : VPort). not port.input) m.ports)

named_places : (ports : List VPort) → AllByRecursion NamedPort ports → AreNamed ports
named_places ports h before port after same = at_place NamedPort before port after (subst (AllByRecursion NamedPort) (sym same) h)

its_ports : (ports : List VPort) → 1 ≤ length ports → AllByRecursion NamedPort ports
    → Spells Anything false (some_ports_text ports) (ports_front ports) false
its_ports [] some h = absurd (omega (arith, some))
its_ports (port ∷ ports) some h = some_ports_spelled port ports (named_places (port ∷ ports) h)

header_spelled : (m : DriverModel) → IsWrittenDriver m
    → SpellsInside Anything false (driver_header_text m) (driver_header_front m) false
unfolding driver_header_text
header_spelled m w =
    behind packages_word (joins (own_name m w) (λ r q. refl)
    (behind (inside is_word) (behind (inside (its_ports m.ports (some_port m w) (ports_named m w)))
    (joins end_word (λ r q. other_named m.name (codes ";\narchitecture driven of " ++ (m.name ++ codes " is\n")) r
    (entity_named m.name w.name) w.other refl)
    (joins (own_name m w) (λ r q. refl) (behind architecture_word (joins (own_name m w) (λ r q. refl) (inside is_word))))))))

-- The signals.

abbrev pub signal_front : List ℕ → Front
signal_front x s = codes "signal" ∷ x ∷ codes ":" ∷ codes "std_ulogic" ∷ codes ";" ∷ s

abbrev pub signals_front : ℕ → Front
signals_front count s = each signal_front (all_numbered data_word count) (each signal_front (all_numbered enable_word count) s)

signal_word : Spells Anything false (codes "  signal ") (λ s. codes "signal" ∷ s) false
unfolding is_reserved is_used vhdl_words used_words
signal_word = literal (λ r. refl) refl

signal_end : {t : Bool} → Spells Anything t (codes " : std_ulogic;\n") (λ s. codes ":" ∷ codes "std_ulogic" ∷ codes ";" ∷ s) false
signal_end = literal (λ r. refl) refl

signal_spelled : (x : List ℕ) → IsNamed x → Spells Anything false (signal_text x) (signal_front x) false
unfolding signal_text
signal_spelled x n = behind signal_word (joins (name x n) (λ r q. refl) signal_end)

signals_spelled : (count : ℕ) → IsCount count → Spells Anything false (signals_text count) (signals_front count) false
unfolding signals_text
signals_spelled count h =
    behind (each_spelled IsNamed signal_spelled (λ x r p. tt) (all_numbered data_word count) (signals_named 100 count refl h))
    (each_spelled IsNamed signal_spelled (λ x r p. tt) (all_numbered enable_word count) (signals_named 101 count refl h))

-- Lists of names.

abbrev pub next_name_front : List ℕ → Front
next_name_front x s = x ∷ codes "," ∷ s

abbrev pub listed_front : List ℕ → ℕ → Front
listed_front word zero s = s
listed_front word (suc n) s = each next_name_front (all_numbered word n) (numbered word (suc n) ∷ s)

next_name : {t : Bool} (x : List ℕ) → IsNamed x → Spells Anything t (next_name_text x) (next_name_front x) false
next_name x n = joins (name x n) (λ r q. refl) comma

next_names : (xs : List (List ℕ)) → AllByRecursion IsNamed xs
    → Spells Anything false (flat_map next_name_text xs) (each next_name_front xs) false
next_names xs h = each_spelled IsNamed next_name (λ x r p. tt) xs h

listed_spelled : (b n : ℕ) → is_ascii_alphabetic b ≡ true → 1 ≤ n → IsCount n
    → Spells Ends false (listed_names_text (b ∷ 95 ∷ []) n) (listed_front (b ∷ 95 ∷ []) n) true
listed_spelled b zero l some h = absurd (omega (arith, some))
listed_spelled b (suc n) l some h =
    behind (next_names (all_numbered (b ∷ 95 ∷ []) n) (signals_named b n l (omega (arith, h)))) (part b (suc n) l h)

-- The core.

abbrev pub next_terminal_front : NumberedPort → Front
next_terminal_front at s = next_name_front (terminal_by data_word at.port.name at.number) s

abbrev pub terminals_front : DriverModel → Front
terminals_front m s = each next_terminal_front (ports_of m) (listed_front enable_word (driven_count m) s)

abbrev pub core_front : DriverModel → Front
core_front m s =
    codes "begin" ∷ codes "u_1" ∷ codes ":" ∷ codes "entity" ∷ codes "work" ∷ codes "." ∷ m.core ∷ codes "port" ∷ codes "map"
    ∷ codes "("
    ∷ terminals_front m (codes ")" ∷ codes ";" ∷ s)

core_word : Spells Anything false (codes "begin\n  u_1 : entity work.")
    (λ s. codes "begin" ∷ codes "u_1" ∷ codes ":" ∷ codes "entity" ∷ codes "work" ∷ codes "." ∷ s) false
core_word = literal (λ r. refl) refl

map_word : {t : Bool} → Spells Anything t (codes " port map (") (λ s. codes "port" ∷ codes "map" ∷ codes "(" ∷ s) false
map_word = literal (λ r. refl) refl

terminals_spelled : (m : DriverModel) → IsWrittenDriver m
    → Spells Ends false (terminals_text data_word enable_word m) (terminals_front m) true
terminals_spelled m w =
    behind (each_spelled NamedTerminal (λ at n. next_name (terminal_by data_word at.port.name at.number) n) (λ x r p. tt)
    (ports_of m) (terminals_named m.driver.drives w.few 0 0 m.ports (ports_named m w)))
    (listed_spelled 101 (driven_count m) refl w.some w.few)

core_spelled : (m : DriverModel) → IsWrittenDriver m → Spells Anything false (core_text m) (core_front m) false
unfolding core_text
core_spelled m w = behind core_word
    (joins (name m.core (entity_named m.core w.core)) (λ r q. refl)
    (behind map_word (joins (terminals_spelled m w) (λ r q. refl) call_end)))

-- The list of signals of the process.

abbrev pub process_front : DriverModel → Front
process_front m s =
    codes "process" ∷ codes "(" ∷ each next_name_front (input_names m.ports)
    (each next_name_front (all_numbered data_word (driven_count m))
    (listed_front enable_word (driven_count m) (codes ")" ∷ s)))

process_word : Spells Anything false (codes "  process (") (λ s. codes "process" ∷ codes "(" ∷ s) false
process_word = literal (λ r. refl) refl

list_end : {t : Bool} → Spells Anything t (codes ")\n") (λ s. codes ")" ∷ s) false
list_end = literal (λ r. refl) refl

process_spelled : (m : DriverModel) → IsWrittenDriver m → Spells Anything false (process_text m) (process_front m) false
unfolding process_text
process_spelled m w =
    behind process_word (behind (next_names (input_names m.ports) (inputs_named m w))
    (behind (next_names (all_numbered data_word (driven_count m)) (signals_named 100 (driven_count m) refl w.few))
    (joins (listed_spelled 101 (driven_count m) refl w.some w.few) (λ r q. refl) list_end)))

-- The variables.

abbrev pub driven_variables_front : DriverModel → ℕ → ℕ → Front
driven_variables_front m n place s = assigned_front n (own_paths m n) s

-- The buffers.

abbrev pub buffer_front : ℕ → ℕ → Front
buffer_front n place s =
    (122 ∷ 95 ∷ decimal n) ∷ codes ":=" ∷ codes "VitalBUFIF1" ∷ codes
    "(" ∷ (100 ∷ 95 ∷ decimal n) ∷ codes "," ∷ (101 ∷ 95 ∷ decimal n) ∷ codes ")" ∷ codes ";" ∷ s

buffer_word : {t : Bool} → Spells Anything t
    (codes " := VitalBUFIF1 (") (λ s. codes ":=" ∷ codes "VitalBUFIF1" ∷ codes "(" ∷ s) false
buffer_word = literal (λ r. refl) refl

buffer_spelled : (n place : ℕ) → IsCount n → Spells Anything false (buffer_text n place) (buffer_front n place) false
buffer_spelled n place h =
    part_behind 122 n refl h indented (λ r q. refl)
    (part_behind 100 n refl h buffer_word (λ r q. refl) (part_behind 101 n refl h comma (λ r q. refl) call_end))

-- The paths.

abbrev pub drive_path_front : DriverModel → ℕ → DrivePath → Front
drive_path_front m n path s =
    decimal (n - 1) ∷ codes "=>" ∷ codes
    "(" ∷ name_at (inputs m.ports) path.from ∷ codes "'" ∷ codes "last_event" ∷ codes "," ∷ codes
    "(" ∷ decimal path.rise ∷ codes "ps" ∷ codes ","
    ∷ decimal path.fall ∷ codes "ps" ∷ codes ")" ∷ codes "," ∷ codes "true" ∷ codes ")" ∷ s

abbrev pub drive_paths_front : DriverModel → List DrivePath → Front
drive_paths_front m paths s = apart_front (λ q. codes "," ∷ q) (drive_path_front m) paths s

abbrev pub path_call_front : DriverModel → ℕ → List ℕ → List DrivePath → Front
path_call_front m n x paths s = codes "VitalPathDelay01" ∷ call_front n x (drive_paths_front m paths) s

abbrev pub line_by_front : DriverModel → ℕ → List ℕ → List DrivePath → Front
line_by_front m n x paths s = assignment_front n x (drive_paths_front m) paths s

abbrev pub driven_line_front : DriverModel → ℕ → ℕ → Front
driven_line_front m n place s = line_by_front m n (name_at (outputs m.ports) place) (own_paths m n) s

true_end : {t : Bool} → Spells Anything t (codes " ps), true)") (λ s. codes "ps" ∷ codes ")" ∷ codes "," ∷ codes "true" ∷ codes
    ")" ∷ s) false
true_end = literal (λ r. refl) refl

-- paths that a text can tell
record ArePaths (m : DriverModel) (paths : List DrivePath) : Type 0 where
  written : AllByRecursion HasNumbers paths
  sound : AllByRecursion (IsPathOf m.driver) paths
  few : length paths ≤ 10 ^ 15

its_paths : (m : DriverModel) → IsWrittenDriver m → (n : ℕ) → ArePaths m (own_paths m n)
its_paths m w n = record {
  written = all_filtered HasNumbers (λ (path : DrivePath). nat_eq path.drive (n - 1)) m.driver.paths
      (recursion_from_All HasNumbers m.driver.paths w.paths);
  sound = all_filtered (IsPathOf m.driver) (λ (path : DrivePath). nat_eq path.drive (n - 1)) m.driver.paths
      (recursion_from_All (IsPathOf m.driver) m.driver.paths w.sound.driver.paths);
  few = few_filtered (λ (path : DrivePath). nat_eq path.drive (n - 1)) m.driver.paths (10 ^ 15) w.few_paths;
}

drive_path_spelled : (m : DriverModel) → IsWrittenDriver m → (all : List DrivePath) → ArePaths m all
    → (before : List DrivePath) (path : DrivePath) (after : List DrivePath) → before ++ path ∷ after ≡ all
    → Spells Anything false (decimal (length before + 1 - 1)
    ++ (codes " => (" ++ (name_at (inputs m.ports) path.from
    ++ (codes "'last_event, (" ++ (decimal path.rise ++ (codes " ps, " ++ (decimal path.fall ++ codes " ps), true)")))))))
    (drive_path_front m (length before + 1) path) false
drive_path_spelled m w all h before path after same =
    let written : HasNumbers path = at_place HasNumbers before path after (subst (AllByRecursion HasNumbers) (sym same) h.written)
    in
    let sound : IsPathOf m.driver path =
    at_place (IsPathOf m.driver) before path after (subst (AllByRecursion (IsPathOf m.driver)) (sym same) h.sound) in
    let index : IsNumber (length before + 1 - 1) =
    subst IsNumber (sym (index_is (length before))) (index_fits before path after all same h.few) in
    joins (number (length before + 1 - 1) index) (λ r q. refl)
    (behind path_start (joins (name (name_at (inputs m.ports) path.from) (input_named m w path.from sound.from)) (λ r q. refl)
    (behind event_word (joins (number path.rise written.rise) (λ r q. refl)
    (behind rise_end (joins (number path.fall written.fall) (λ r q. refl) true_end))))))

drive_path_text_is : (m : DriverModel) (n : ℕ) (path : DrivePath) → drive_path_text m.ports n path
    ≡ apart_text (codes ", ") n ++ (decimal (n - 1)
    ++ (codes " => (" ++ (name_at (inputs m.ports) path.from
    ++ (codes "'last_event, (" ++ (decimal path.rise ++ (codes " ps, " ++ (decimal path.fall ++ codes " ps), true)")))))))
unfolding drive_path_text
drive_path_text_is m n path = refl

drive_paths_spelled : (m : DriverModel) → IsWrittenDriver m → (path : DrivePath) (paths : List DrivePath)
    → ArePaths m (path ∷ paths)
    → Spells Anything false (numbered_texts (drive_path_text m.ports) 1 (path ∷ paths)) (drive_paths_front m (path ∷ paths)) false
drive_paths_spelled m w path paths h =
    apart_spelled (codes ", ") (λ q. codes "," ∷ q) (drive_path_text m.ports)
    (λ n x. decimal (n - 1) ++ (codes
    " => (" ++ (name_at (inputs m.ports) x.from
    ++ (codes "'last_event, (" ++ (decimal x.rise ++ (codes " ps, " ++ (decimal x.fall ++ codes " ps), true)")))))))
    (drive_path_front m) (drive_path_text_is m) comma (λ r. tt) path paths (drive_path_spelled m w (path ∷ paths) h)

-- The lines of the outputs.

driven_line_spelled : (m : DriverModel) → IsWrittenDriver m → (n place : ℕ) → IsCount n → place < m.driver.outputs
    → Spells Anything false (driven_line m n place) (driven_line_front m n place) false
unfolding driven_line
driven_line_spelled m w n place h l =
    assignment_spelled n (name_at (outputs m.ports) place) (numbered_texts (drive_path_text m.ports) 1) (drive_paths_front m)
    (own_paths m n) h (output_named m w place l)
    (λ path paths same. drive_paths_spelled m w path paths (subst (ArePaths m) same (its_paths m w n)))

-- The process behind its list.

abbrev pub statements_front : DriverModel → Front
statements_front m s =
    counted (driven_variables_front m) 1 m.driver.drives
    (codes "begin" ∷ counted buffer_front 1 m.driver.drives (counted (driven_line_front m) 1 m.driver.drives s))

statements_spelled : (m : DriverModel) → IsWrittenDriver m → Spells Anything false (statements_text m) (statements_front m) false
unfolding statements_text
statements_spelled m w =
    let number : (n : ℕ) → n ≤ length m.driver.drives → IsCount n = (λ n h. omega (arith, h, w.few)) in
    behind (counted_parts (driven_variables_text m) (driven_variables_front m) m.driver.drives number
    (λ n place. assigned_spelled n (own_paths m n)))
    (behind begin_word
    (behind (counted_parts buffer_text buffer_front m.driver.drives number buffer_spelled)
    (counted_anywhere (driven_line m) (driven_line_front m) m.driver.drives
    (λ before place after same. driven_line_spelled m w (length before + 1) place
    (number (length before + 1) (place_below before place after m.driver.drives same))
    (fact_at (λ place. place < m.driver.outputs) m.driver.drives w.sound.driver.outputs before place after same)))))

-- The whole, up to the words that end the section.

abbrev pub before_end : DriverModel → List ℕ
before_end m =
    driver_header_text m
    ++ (signals_text (driven_count m) ++ (core_text m ++ (process_text m ++ (statements_text m ++ codes "  end process;\n"))))

abbrev pub before_end_front : DriverModel → Front
before_end_front m s =
    driver_header_front m (signals_front (driven_count m)
    (core_front m (process_front m (statements_front m (codes "end" ∷ codes "process" ∷ codes ";" ∷ s)))))

process_end : Spells Anything false (codes "  end process;\n") (λ s. codes "end" ∷ codes "process" ∷ codes ";" ∷ s) false
process_end = literal (λ r. refl) refl

-- the tokens of a driver's text, none of which ends its section
pub before_end_spelled : (m : DriverModel) → IsWrittenDriver m
    → SpellsInside Anything false (before_end m) (before_end_front m) false
before_end_spelled m w =
    behind (header_spelled m w) (inside
    (behind (signals_spelled (driven_count m) w.few)
    (behind (core_spelled m w) (behind (process_spelled m w) (behind (statements_spelled m w) process_end)))))
