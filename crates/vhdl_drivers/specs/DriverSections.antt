-- The grammar of a section of VHDL text that holds a driver: an entity whose architecture, named `driven`, has an instance of a
-- core and a process with a buffer for each driven output. (IEEE 1076-1993, 1.1, 1.2, 4.3.1.2, 9.2 and 9.6; IEEE 1076.4-2000,
-- VitalBUFIF1 and VitalPathDelay01. The form of the section, and the names of its signals, variables and of the core's
-- instance, are this project's.)
use Rattle.std.specs.Prelude.{ℕ, zero, suc, ◌+◌, ◌==◌, ◌&&◌, nat_lt, Bool, true, false, List, [], ◌∷◌, ◌++◌, length, slice_get}
use Rattle.std.specs.Prelude.{Option, Some, None, codes, if◌then◌else◌}
use Rattle.std.specs.Option.{option_map_or}
use Rattle.grammar_rules.specs.Rule.{Verdict, Fits, Misfit}
use Rattle.grammar_rules.specs.Rule as r
use Rattle.grammar_reader.specs.declared.refusal.Refusal.{Refusal}
use Rattle.grammar_reader.specs.declared.refusal.Refusal.TheVariants.{Syntax, Undefined}
use Rattle.grammar_reader.specs.Words.{Grammar, ◌>>=◌, go_on_where}
use Rattle.vhdl_tokens.specs.Tokens.{is_name, lexis}
use Rattle.vhdl_tokens.specs.Spelling.{is_same, is_quoted}
use Rattle.udp_tables.specs.declared.models.VPort.{VPort}
use Rattle.vhdl_grammar.specs.VhdlRules.{expect, expect_all, begins, known, new_name, this_name, this_number}
use Rattle.vhdl_grammar.specs.VhdlDeclarations.{packages, port_list, input_names, listed_names, last_true, is_last_false}
use Rattle.vhdl_grammar.specs.VhdlOutputs.{delays}
use Rattle.driven_traces.specs.declared.delays.DrivePath.{DrivePath}
use Rattle.driver_models.specs.declared.model.DriverModel.{DriverModel}
use Rattle.driver_models.specs.Wires.{numbered}
use Rattle.driver_models.specs.Wires as wires
use Rattle.driver_models.specs.Terminals.{all_numbered}
use Rattle.driver_models.specs.Terminals as terminals
use Rattle.driver_models.specs.Cores.{Core, core_name}
use Rattle.driver_models.specs.PathEnds.{input_number}
use Rattle.driver_texts.specs.NumberedPorts.{numbered_ports, driven_names}
use Rattle.driver_texts.specs.Sections.{nothing_left, SectionGrammar, driver_of}
use Rattle.driver_texts.specs.declared.section_parts.CoreCall.{CoreCall}
use Rattle.driver_texts.specs.declared.section_parts.SectionFront.{SectionFront}
use Rattle.vhdl_drivers.specs.DriverText.{data_word, enable_word}

-- the name of a word and a number
abbrev pub numbered_name : List ℕ → ℕ → Grammar (Unit {0})
numbered_name word number = this_name (Some (numbered word number))

-- "use" "work" "." "all" ";" and the packages of an entity (10.4)
unfoldable pub driver_packages : Grammar (Unit {0})
driver_packages = do
  _ ← expect_all (codes "use" ∷ codes "work" ∷ codes "." ∷ codes "all" ∷ codes ";" ∷ codes "library" ∷ [])
  packages

-- The next token is not the word `driven`, and is not taken. The word names the architecture, and is no name of a driver.
abbrev pub is_other : List ℕ → Verdict (Unit {0}) Refusal
is_other x = if is_same x (codes "driven") then Misfit Syntax else Fits tt

abbrev pub not_driven : Grammar (Unit {0})
not_driven = r.Peek is_other Syntax

-- the name of a driver, where these names are taken
unfoldable pub driver_name : List (List ℕ) → Grammar (List ℕ)
driver_name names = do
  _ ← not_driven
  new_name names

-- the name of this driver again
unfoldable pub this_driver : List ℕ → Grammar (Unit {0})
this_driver name = do
  _ ← not_driven
  this_name (Some name)

-- "end" NAME ";" "architecture" "driven" "of" NAME "is" behind the ports of this driver (1.1, 1.2)
unfoldable pub header_end : List ℕ → Grammar (Unit {0})
header_end name = do
  _ ← expect (codes "end")
  _ ← this_driver name
  _ ← expect_all (codes ";" ∷ codes "architecture" ∷ codes "driven" ∷ codes "of" ∷ [])
  _ ← this_driver name
  expect (codes "is")

-- "port" "(" port { ";" port } ")" ";": the ports of a driver, of which none but another port has the name (1.1.1.2)
unfoldable pub driver_ports : Grammar (List VPort)
driver_ports = do
  _ ← expect (codes "port")
  port_list []

-- The packages, "entity" NAME "is", the ports and the header of the architecture, where these names are taken.
unfoldable pub section_front : List (List ℕ) → Grammar SectionFront
section_front names = do
  _ ← driver_packages
  _ ← expect (codes "entity")
  name ← driver_name names
  _ ← expect (codes "is")
  ports ← driver_ports
  _ ← header_end name
  r.Gives (record { name = name; ports = ports })

-- { "signal" NAME ":" "std_ulogic" ";" }: how many signals to buffers' inputs there are, and as many to their enables (4.3.1.2)
unfoldable pub driver_signals : Grammar ℕ
driver_signals =
    wires.declared_wires is_name is_same data_word enable_word (codes "signal") (codes ":" ∷ codes "std_ulogic" ∷ codes ";" ∷ [])

-- "begin" NAME ":" "entity" "work" ".": what stands before the name of the core
unfoldable pub core_start : Grammar (Unit {0})
core_start = do
  _ ← expect (codes "begin")
  _ ← this_name (Some (codes "u_1"))
  expect_all (codes ":" ∷ codes "entity" ∷ codes "work" ∷ codes "." ∷ [])

-- "port" "map" "(" terminals ")" ";" behind the name of the core: the places among the outputs that are driven
unfoldable pub port_map : List VPort → ℕ → Grammar (List ℕ)
port_map ports driven = do
  _ ← expect_all (codes "port" ∷ codes "map" ∷ codes "(" ∷ [])
  drives ← terminals.core_terminals is_name is_same data_word enable_word driven ports
  _ ← expect (codes ")")
  _ ← expect (codes ";")
  r.Gives drives

-- the instance of the core, for a driver with these ports and so many signals to buffers' inputs (9.6)
unfoldable pub core_call : List Core → List VPort → ℕ → Grammar CoreCall
core_call cores ports driven = do
  _ ← core_start
  core ← known (core_name is_same cores ports driven)
  drives ← port_map ports driven
  r.Gives (record { core = core; drives = drives })

-- the signals, and the instance of the core, where the models that may be cores are these
unfoldable pub section_core : List Core → List VPort → Grammar CoreCall
section_core cores ports = do
  driven ← driver_signals
  core_call cores ports driven

-- the signals to which the process of a driver with so many driven outputs responds: the inputs, those of data, those of enables
abbrev pub signal_names : List VPort → ℕ → List (List ℕ)
signal_names ports driven = input_names ports ++ (all_numbered data_word driven ++ all_numbered enable_word driven)

-- "process" "(" NAME { "," NAME } ")": the process with its list of signals (9.2)
unfoldable pub process_start : List VPort → ℕ → Grammar (Unit {0})
process_start ports driven = do
  _ ← expect (codes "process")
  listed_names (signal_names ports driven)

-- The name is that of the value of the next of so many driven outputs, where of the first ones variables stand already, each
-- with whether it has one of its delays.
abbrev pub is_next_value : ℕ → List Bool → List ℕ → Bool
is_next_value driven glitches x = nat_lt (length glitches) driven && is_same x (numbered (codes "z_") (length glitches + 1))

-- the name is that of the delays of the last of these outputs, which has none yet
abbrev pub is_last_delays : List Bool → List ℕ → Bool
is_last_delays glitches x = is_last_false glitches && is_same x (numbered (codes "g_") (length glitches))

-- whether the variable of this name, where it may stand next, is that of an output's delays
abbrev pub variable_of : ℕ → List Bool → List ℕ → Option Bool
variable_of driven glitches x =
    if is_next_value driven glitches x then Some false else (if is_last_delays glitches x then Some true else None)

-- ":" "std_logic" ":=" "'X'" ";" behind the name of the value of an output
unfoldable pub value_variable : List Bool → Grammar (List Bool)
value_variable glitches = do
  _ ← expect_all (codes ":" ∷ codes "std_logic" ∷ codes ":=" ∷ codes "'X'" ∷ codes ";" ∷ [])
  r.Gives (glitches ++ false ∷ [])

-- ":" "VitalGlitchDataType" ";" behind the name of the data of an output's delays
unfoldable pub delays_variable : List Bool → Grammar (List Bool)
delays_variable glitches = do
  _ ← expect_all (codes ":" ∷ codes "VitalGlitchDataType" ∷ codes ";" ∷ [])
  r.Gives (last_true glitches)

abbrev pub variable_by : List Bool → Bool → Grammar (List Bool)
variable_by glitches false = value_variable glitches
variable_by glitches true = delays_variable glitches

-- a variable behind "variable"
unfoldable pub driven_variable : ℕ → List Bool → Grammar (List Bool)
driven_variable driven glitches = do
  of ← known (variable_of driven glitches)
  variable_by glitches of

-- { variable }: for each of so many driven outputs whether it has data of its delays (4.3.1.3)
unfoldable pub driven_variables : ℕ → Grammar (List Bool)
driven_variables driven = do
  glitches ← r.Many (λ _. begins (codes "variable")) (λ found _. driven_variable driven found) []
  _ ← go_on_where (length glitches == driven)
  r.Gives glitches

-- NAME ":=" "VitalBUFIF1" "(" NAME "," NAME ")" ";": the buffer of the driven output with this number, from 1
unfoldable pub buffer : ℕ → Grammar (Unit {0})
buffer number = do
  _ ← numbered_name (codes "z_") number
  _ ← expect_all (codes ":=" ∷ codes "VitalBUFIF1" ∷ codes "(" ∷ [])
  _ ← numbered_name data_word number
  _ ← expect (codes ",")
  _ ← numbered_name enable_word number
  expect_all (codes ")" ∷ codes ";" ∷ [])

-- the buffers of so many driven outputs, from the one with this number on
abbrev pub buffers : ℕ → ℕ → Grammar (Unit {0})
buffers number zero = r.Gives tt
buffers number (suc left) = buffer number >>= λ _. buffers (number + 1) left

-- the text of this name
abbrev pub is_text_of : List ℕ → List ℕ → Verdict (Unit {0}) Refusal
is_text_of name x = if is_quoted x name then Fits tt else Misfit Syntax

abbrev pub text_of_name : List ℕ → Grammar (Unit {0})
text_of_name name = r.Token (is_text_of name) Syntax

-- NUM "=>" "(" NAME "'" "last_event" "," delays "true" ")": a path from an input to the driven output with this number, from 0,
-- behind other paths to it, with the delays of a rise and of a fall
unfoldable pub drive_path : List VPort → ℕ → List DrivePath → Grammar (List DrivePath)
drive_path ports drive paths = do
  _ ← this_number (length paths)
  _ ← expect_all (codes "=>" ∷ codes "(" ∷ [])
  from ← known (input_number is_same ports)
  _ ← expect_all (codes "'" ∷ codes "last_event" ∷ codes "," ∷ [])
  times ← delays
  _ ← expect_all (codes "true" ∷ codes ")" ∷ [])
  r.Gives (paths ++ record { from = from; drive = drive; rise = times.0; fall = times.1 } ∷ [])

-- path { "," path }
unfoldable pub drive_paths : List VPort → ℕ → Grammar (List DrivePath)
drive_paths ports drive = do
  first ← drive_path ports drive []
  r.Many (λ _. begins (codes ",")) (λ paths _. drive_path ports drive paths) first

-- "(" "OutSignal" "=>" NAME "," "GlitchData" "=>" NAME "," "OutSignalName" "=>" TEXT "," "OutTemp" "=>" NAME "," "Paths" "=>"
-- "(": of the driven output with this number, from 0, and this name
unfoldable pub path_call_start : ℕ → List ℕ → Grammar (Unit {0})
path_call_start number name = do
  _ ← expect_all (codes "(" ∷ codes "OutSignal" ∷ codes "=>" ∷ [])
  _ ← this_name (Some name)
  _ ← expect_all (codes "," ∷ codes "GlitchData" ∷ codes "=>" ∷ [])
  _ ← numbered_name (codes "g_") (number + 1)
  _ ← expect_all (codes "," ∷ codes "OutSignalName" ∷ codes "=>" ∷ [])
  _ ← text_of_name name
  _ ← expect_all (codes "," ∷ codes "OutTemp" ∷ codes "=>" ∷ [])
  _ ← numbered_name (codes "z_") (number + 1)
  expect_all (codes "," ∷ codes "Paths" ∷ codes "=>" ∷ codes "(" ∷ [])

-- the call of the paths of the driven output with this number, from 0, and this name: these paths, and its own
unfoldable pub path_call : List VPort → ℕ → List ℕ → List DrivePath → Grammar (List DrivePath)
path_call ports number name found = do
  _ ← this_name (Some (codes "VitalPathDelay01"))
  _ ← path_call_start number name
  own ← drive_paths ports number
  _ ← expect_all (codes ")" ∷ codes "," ∷ codes "Mode" ∷ codes "=>" ∷ codes "VitalTransport" ∷ codes ")" ∷ codes ";" ∷ [])
  r.Gives (found ++ own)

-- NAME "<=" NAME ";": the assignment of the driven output with this number, from 0, and this name, which has no paths
unfoldable pub assignment : ℕ → List ℕ → Grammar (Unit {0})
assignment number name = do
  _ ← this_name (Some name)
  _ ← expect (codes "<=")
  _ ← numbered_name (codes "z_") (number + 1)
  expect (codes ";")

-- the driven output with this number, from 0, has data of its delays, so it has paths
abbrev pub has_glitch : List Bool → ℕ → Bool
has_glitch glitches number = option_map_or (λ (b : Bool). b) (slice_get glitches number) false

-- the line of a driven output: these paths, and its own
abbrev pub line_by : List VPort → ℕ → List ℕ → List DrivePath → Bool → Grammar (List DrivePath)
line_by ports number name found true = path_call ports number name found
line_by ports number name found false = assignment number name >>= λ _. r.Gives found

-- the lines of the driven outputs with these names, one for each, from the one with this number on: these paths, and their own
abbrev pub driven_lines : List VPort → List Bool → ℕ → List (List ℕ) → List DrivePath → Grammar (List DrivePath)
driven_lines ports glitches number [] found = r.Gives found
driven_lines ports glitches number (name ∷ names) found =
    line_by ports number name found (has_glitch glitches number) >>= λ more. driven_lines ports glitches (number + 1) names more

-- "begin", the buffers and the lines of the outputs that are driven: the paths to them
unfoldable pub statements : List VPort → List ℕ → List Bool → Grammar (List DrivePath)
statements ports drives glitches = do
  _ ← expect (codes "begin")
  _ ← buffers 1 (length drives)
  driven_lines ports glitches 0 (driven_names (numbered_ports drives 0 0 ports)) []

-- the process of a driver with these ports, of whose outputs these are driven: the paths to them
unfoldable pub process : List VPort → List ℕ → Grammar (List DrivePath)
process ports drives = do
  _ ← process_start ports (length drives)
  glitches ← driven_variables (length drives)
  statements ports drives glitches

-- "end" behind all statements, where a name would begin another one
abbrev pub is_end : List ℕ → Verdict (Unit {0}) Refusal
is_end x = if is_same x (codes "end") then Fits tt else (if is_name x then Misfit Undefined else Misfit Syntax)

-- "end" "process" ";" "end" "driven" ";", with nothing behind
unfoldable pub section_end : Grammar (Unit {0})
section_end = do
  _ ← r.Token is_end Syntax
  _ ← expect_all (codes "process" ∷ codes ";" ∷ codes "end" ∷ codes "driven" ∷ codes ";" ∷ [])
  nothing_left

-- what stands behind the core
unfoldable pub section_process : SectionFront → CoreCall → Grammar DriverModel
section_process front call = do
  paths ← process front.ports call.drives
  _ ← section_end
  r.Gives (driver_of front call paths)

-- what stands behind the front of a section
unfoldable pub section_rest : List Core → SectionFront → Grammar DriverModel
section_rest cores front = do
  call ← section_core cores front.ports
  section_process front call

-- the sections of VHDL texts that hold drivers
abbrev pub vhdl_section_grammar : SectionGrammar
vhdl_section_grammar = record { lexis = lexis; front = section_front; rest = section_rest }
