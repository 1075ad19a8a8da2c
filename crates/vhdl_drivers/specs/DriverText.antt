-- The text of a model of drivers, by the syntax of IEEE 1076-1993, clauses 1.1 and 1.2, entities and architectures, 4.3.1.2,
-- signals, 9.2, processes, and 9.6, instances, and of IEEE 1076.4-2000, VitalBUFIF1 and VitalPathDelay01. The layout is this
-- project's.
use Rattle.std.specs.Prelude.{ℕ, ◌-◌, nat_eq, nat_lt, List, [], ◌++◌, length, codes, decimal, if◌then◌else◌}
use Rattle.std.specs.List.{flat_map, filter}
use Rattle.udp_tables.specs.declared.models.VPort.{VPort}
use Rattle.vhdl_grammar.specs.VhdlDeclarations.{input_names}
use Rattle.vhdl_writer.specs.Joined.{numbered_texts, apart_text}
use Rattle.vhdl_writer.specs.Assignments.{assigned_variables_text, assignment_text}
use Rattle.vhdl_writer.specs.Declarations.{some_ports_text, entity_header_text}
use Rattle.driven_traces.specs.declared.delays.DrivePath.{DrivePath}
use Rattle.driver_models.specs.declared.model.DriverModel.{DriverModel}
use Rattle.driver_models.specs.Terminals.{all_numbered}
use Rattle.driver_texts.specs.NumberedNames.{next_name_text, listed_names_text}
use Rattle.driver_texts.specs.CoreTerminals.{core_line_text}
use Rattle.driver_texts.specs.PortNames.{inputs, outputs, name_at}

-- what the name of a signal that a core drives in place of a driven output begins with, before its number, and that of its enable
abbrev pub data_word : List ℕ
data_word = codes "d_"

abbrev pub enable_word : List ℕ
enable_word = codes "e_"

-- how many outputs are driven
abbrev pub driven_count : DriverModel → ℕ
driven_count m = length m.driver.drives

-- the packages that a driver uses, and its header (1.1, 1.2 and 10.4)
unfoldable pub driver_header_text : DriverModel → List ℕ
driver_header_text m =
    entity_header_text
    (codes "use work.all;\nlibrary IEEE;\nuse IEEE.std_logic_1164.all;\nuse IEEE.VITAL_Timing.all;\nuse IEEE.VITAL_Primitives.all;\nentity ")
    m.name (some_ports_text m.ports) (codes ";\narchitecture driven of ")

-- the declaration of a signal (4.3.1.2)
unfoldable pub signal_text : List ℕ → List ℕ
signal_text name = codes "  signal " ++ (name ++ codes " : std_ulogic;\n")

-- the signals of so many driven outputs: those of data, then those of enables
unfoldable pub signals_text : ℕ → List ℕ
signals_text count = flat_map signal_text (all_numbered data_word count) ++ flat_map signal_text (all_numbered enable_word count)

-- the line of the core (9.6)
unfoldable pub core_text : DriverModel → List ℕ
core_text m = core_line_text (codes "begin\n  u_1 : entity work.") (codes " port map (") data_word enable_word m

-- an input before another name in the list of signals
abbrev pub next_input_text : VPort → List ℕ
next_input_text port = if port.input then next_name_text port.name else []

-- the signals to which the process responds: the inputs, those of data, those of enables (9.2)
unfoldable pub process_text : DriverModel → List ℕ
process_text m =
    codes "  process ("
    ++ (flat_map next_name_text (input_names m.ports)
    ++ (flat_map next_name_text (all_numbered data_word (driven_count m))
    ++ (listed_names_text enable_word (driven_count m) ++ codes ")\n")))

-- the paths to the driven output with this number, from 0
abbrev pub paths_to : ℕ → List DrivePath → List DrivePath
paths_to number paths = filter (λ (path : DrivePath). nat_eq path.drive number) paths

-- the paths to the driven output with this number, from 1
abbrev pub own_paths : DriverModel → ℕ → List DrivePath
own_paths m n = paths_to (n - 1) m.driver.paths

-- the variables of the driven output with this number, from 1 (4.3.1.3)
abbrev pub driven_variables_text : DriverModel → ℕ → ℕ → List ℕ
driven_variables_text m n place = assigned_variables_text n (nat_lt 0 (length (own_paths m n)))

-- the buffer of the driven output with this number, from 1 (IEEE 1076.4-2000, VitalBUFIF1)
abbrev pub buffer_text : ℕ → ℕ → List ℕ
buffer_text n place =
    codes "    z_" ++ (decimal n ++ (codes " := VitalBUFIF1 (d_" ++ (decimal n ++ (codes ", e_" ++ (decimal n ++ codes ");\n")))))

-- a path from one of these ports, with this number, from 1, among those of its output: its index is one less
unfoldable pub drive_path_text : List VPort → ℕ → DrivePath → List ℕ
drive_path_text ports n path =
    apart_text (codes ", ") n
    ++ (decimal (n - 1)
    ++ (codes " => ("
    ++ (name_at (inputs ports) path.from
    ++ (codes "'last_event, (" ++ (decimal path.rise ++ (codes " ps, " ++ (decimal path.fall ++ codes " ps), true)")))))))

-- the line of the driven output with this number, from 1, which stands at this place among the outputs
unfoldable pub driven_line : DriverModel → ℕ → ℕ → List ℕ
driven_line m n place =
    assignment_text n (name_at (outputs m.ports) place) (nat_lt 0 (length (own_paths m n)))
    (numbered_texts (drive_path_text m.ports) 1 (own_paths m n))

-- the process behind its list of signals: the variables, the buffers, the lines of outputs
unfoldable pub statements_text : DriverModel → List ℕ
statements_text m =
    numbered_texts (driven_variables_text m) 1 m.driver.drives
    ++ (codes "  begin\n" ++ (numbered_texts buffer_text 1 m.driver.drives ++ numbered_texts (driven_line m) 1 m.driver.drives))

-- a driver: its header, its signals, its core and its process
unfoldable pub driver_text : DriverModel → List ℕ
driver_text m =
    driver_header_text m
    ++ (signals_text (driven_count m)
    ++ (core_text m ++ (process_text m ++ (statements_text m ++ codes "  end process;\nend driven;\n"))))
