-- The grammar of a section of Verilog text that holds a driver: a module of a cell with an instance of its core and a buffer at
-- each driven output. (IEEE 1364-2005, 7.4, three-state gates, 12.1 and 12.3, modules, their instances and ports, 14.2, paths,
-- and 19.1, `celldefine. The form of the module, and the names of its wires and of the core's instance, are this project's.)
use Rattle.std.specs.Prelude.{ℕ, ◌+◌, ◌==◌, List, [], ◌∷◌, ◌++◌, length, slice_get, Some, codes}
use Rattle.std.specs.Str.{bytes_eq}
use Rattle.grammar_rules.specs.Rule.{Fits}
use Rattle.grammar_rules.specs.Rule as r
use Rattle.grammar_reader.specs.declared.refusal.Refusal.TheVariants.{Syntax}
use Rattle.grammar_reader.specs.Words.{Grammar, ◌>>=◌, go_on_where, name_by}
use Rattle.verilog_tokens.specs.Tokens.{is_name, lexis}
use Rattle.udp_tables.specs.declared.models.VPort.{VPort}
use Rattle.udp_tables.specs.VerilogRules.{expect, begins, known, new_name, this_name}
use Rattle.verilog_grammar.specs.VerilogModules.{some_ports, declared_inputs, declared_outputs}
use Rattle.verilog_grammar.specs.VerilogBlocks.{a_number}
use Rattle.driven_traces.specs.declared.delays.DrivePath.{DrivePath}
use Rattle.driver_models.specs.declared.model.DriverModel.{DriverModel}
use Rattle.driver_models.specs.Wires.{numbered}
use Rattle.driver_models.specs.Wires as wires
use Rattle.driver_models.specs.Terminals as terminals
use Rattle.driver_models.specs.Cores.{Core, core_name}
use Rattle.driver_models.specs.PathEnds.{input_number, drive_number}
use Rattle.driver_texts.specs.NumberedPorts.{numbered_ports, driven_names}
use Rattle.driver_texts.specs.Sections.{nothing_left, SectionGrammar, driver_of}
use Rattle.driver_texts.specs.declared.section_parts.CoreCall.{CoreCall}
use Rattle.driver_texts.specs.declared.section_parts.SectionFront.{SectionFront}
use Rattle.verilog_drivers.specs.DriverText.{data_word, enable_word}

-- a name stands next, and is not taken
abbrev pub name_follows : Grammar (Unit {0})
name_follows = r.Peek (name_by is_name (λ _. Fits tt)) Syntax

-- "(" NAME { "," NAME } ")" ";": the header of a module with a port at least (12.3.1)
unfoldable pub driver_header : Grammar (List VPort)
driver_header = do
  _ ← expect (codes "(")
  _ ← name_follows
  ports ← some_ports
  _ ← expect (codes ")")
  _ ← expect (codes ";")
  r.Gives ports

-- the ports of a driver: its header, then its inputs, then its outputs
unfoldable pub driver_ports : Grammar (List VPort)
driver_ports = do
  plain ← driver_header
  found ← declared_inputs (record { ports = plain; behind = 0 })
  _ ← declared_outputs found.ports
  r.Gives found.ports

-- { "wire" NAME ";" }: how many wires to buffers' inputs there are, and as many to their enables (A.2.1.3)
unfoldable pub driver_wires : Grammar ℕ
driver_wires = wires.declared_wires is_name bytes_eq data_word enable_word (codes "wire") (codes ";" ∷ [])

-- NAME "lib_u" "(" terminals ")" ";": the instance of the core, for a driver with these ports and so many wires to buffers'
-- inputs (12.1.2)
unfoldable pub core_call : List Core → List VPort → ℕ → Grammar CoreCall
core_call cores ports driven = do
  core ← known (core_name bytes_eq cores ports driven)
  _ ← this_name (Some (codes "lib_u"))
  _ ← expect (codes "(")
  drives ← terminals.core_terminals is_name bytes_eq data_word enable_word driven ports
  _ ← expect (codes ")")
  _ ← expect (codes ";")
  r.Gives (record { core = core; drives = drives })

-- the name of a word and a number
abbrev pub numbered_name : List ℕ → ℕ → Grammar (Unit {0})
numbered_name word number = this_name (Some (numbered word number))

-- "," NAME "," NAME ")" ";" behind the output of a buffer: its data and its enable
unfoldable pub buffer_inputs : ℕ → Grammar ℕ
buffer_inputs number = do
  _ ← expect (codes ",")
  _ ← numbered_name data_word (number + 1)
  _ ← expect (codes ",")
  _ ← numbered_name enable_word (number + 1)
  _ ← expect (codes ")")
  _ ← expect (codes ";")
  r.Gives (number + 1)

-- "(" NAME "," NAME "," NAME ")" ";" behind "bufif1": the next of these outputs, its data and its enable (7.4)
unfoldable pub buffer : List (List ℕ) → ℕ → Grammar ℕ
buffer outputs number = do
  _ ← expect (codes "(")
  _ ← this_name (slice_get outputs number)
  buffer_inputs number

-- { "bufif1" .. }: one buffer for each of these outputs, in order
unfoldable pub buffers : List (List ℕ) → Grammar (Unit {0})
buffers outputs = do
  number ← r.Many (λ _. begins (codes "bufif1")) (λ number _. buffer outputs number) 0
  go_on_where (number == length outputs)

-- NAME "=>" NAME ")" "=" "(" NUM "," NUM ")" ";" behind "(": a path from an input to a driven output, with the delays of a rise
-- and of a fall (14.2.1, 14.3.1)
unfoldable pub drive_path : List VPort → List ℕ → Grammar DrivePath
drive_path ports drives = do
  from ← known (input_number bytes_eq ports)
  _ ← expect (codes "=>")
  drive ← known (drive_number bytes_eq ports drives)
  _ ← expect (codes ")")
  _ ← expect (codes "=")
  _ ← expect (codes "(")
  rise ← a_number
  _ ← expect (codes ",")
  fall ← a_number
  _ ← expect (codes ")")
  _ ← expect (codes ";")
  r.Gives (record { from = from; drive = drive; rise = rise; fall = fall })

unfoldable pub next_drive_path : List VPort → List ℕ → List DrivePath → Grammar (List DrivePath)
next_drive_path ports drives paths = drive_path ports drives >>= λ another. r.Gives (paths ++ another ∷ [])

-- { path } "endspecify" behind "specify" (14.1)
unfoldable pub drive_block : List VPort → List ℕ → Grammar (List DrivePath)
drive_block ports drives = do
  paths ← r.Many (λ _. begins (codes "(")) (λ paths _. next_drive_path ports drives paths) []
  _ ← expect (codes "endspecify")
  r.Gives paths

-- [ "specify" { path } "endspecify" ]
unfoldable pub drive_paths : List VPort → List ℕ → Grammar (List DrivePath)
drive_paths ports drives = r.Choice (begins (codes "specify")) (λ _. drive_block ports drives) (r.Gives [])

-- "`celldefine" "module" NAME and the ports, where these names are taken (12.1, 19.1)
unfoldable pub section_front : List (List ℕ) → Grammar SectionFront
section_front names = do
  _ ← expect (codes "`celldefine")
  _ ← expect (codes "module")
  name ← new_name names
  ports ← driver_ports
  r.Gives (record { name = name; ports = ports })

-- What stands behind the ports of a driver: its core, and its paths.
pub record Body : Type 0 where
  pub call : CoreCall
  pub paths : List DrivePath

-- The declarations of wires, the core, the buffers and the paths, behind these ports, where the models that may be cores are
-- these.
unfoldable pub section_body : List Core → List VPort → Grammar Body
section_body cores ports = do
  driven ← driver_wires
  call ← core_call cores ports driven
  _ ← buffers (driven_names (numbered_ports call.drives 0 0 ports))
  paths ← drive_paths ports call.drives
  r.Gives (record { call = call; paths = paths })

-- "endmodule" "`endcelldefine", with nothing behind
unfoldable pub section_end : Grammar (Unit {0})
section_end = do
  _ ← expect (codes "endmodule")
  _ ← expect (codes "`endcelldefine")
  nothing_left

-- what stands behind the front of a section
unfoldable pub section_rest : List Core → SectionFront → Grammar DriverModel
section_rest cores front = do
  body ← section_body cores front.ports
  _ ← section_end
  r.Gives (driver_of front body.call body.paths)

-- the sections of Verilog texts that hold drivers
abbrev pub verilog_section_grammar : SectionGrammar
verilog_section_grammar = record { lexis = lexis; front = section_front; rest = section_rest }
