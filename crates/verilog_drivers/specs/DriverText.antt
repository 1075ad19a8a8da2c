-- The text of a model of drivers, by the syntax of IEEE 1364-2005, clauses 7.4, three-state gates, 12.1, modules and their
-- instances, 14.2, paths, and 19.1, `celldefine. The layout is this project's: one declaration or instance a line, two spaces
-- before it.
use Rattle.std.specs.Prelude.{ℕ, nat_lt, List, [], ◌++◌, length, Option, Some, None, codes, decimal, if◌then◌else◌}
use Rattle.std.specs.List.{flat_map}
use Rattle.driven_traces.specs.declared.delays.DrivePath.{DrivePath}
use Rattle.driver_models.specs.declared.model.DriverModel.{DriverModel}
use Rattle.driver_models.specs.Terminals.{all_numbered}
use Rattle.driver_texts.specs.CoreTerminals.{core_line_text}
use Rattle.driver_texts.specs.NumberedPorts.{NumberedPort, ports_of}
use Rattle.driver_texts.specs.PortNames.{inputs, name_at, driven_name}
use Rattle.verilog_writer.specs.Model.{ports_text, input_port_text, output_port_text, wire_text}
use Rattle.verilog_writer.specs.Timing.{path_line}

-- what the name of a wire that a core drives in place of a driven output begins with, before its number, and that of its enable
abbrev pub data_word : List ℕ
data_word = codes "lib_d"

abbrev pub enable_word : List ℕ
enable_word = codes "lib_e"

-- the line of the core (12.1.2)
unfoldable pub core_text : DriverModel → List ℕ
core_text m = core_line_text (codes "  ") (codes " lib_u (") data_word enable_word m

-- the buffer at a driven output: its output, its data and its enable (7.4)
abbrev pub buffer_by : List ℕ → Option ℕ → List ℕ
buffer_by name None = []
buffer_by name (Some number) =
    codes "  bufif1 ("
    ++ (name ++ (codes ", lib_d" ++ (decimal number ++ (codes ", lib_e" ++ (decimal number ++ codes ");\n")))))

abbrev pub buffer_text : NumberedPort → List ℕ
buffer_text at = buffer_by at.port.name at.number

-- a path's line (14.2.1)
unfoldable pub drive_path_text : DriverModel → DrivePath → List ℕ
drive_path_text m path =
    codes "    " ++ path_line (name_at (inputs m.ports) path.from) (driven_name m path.drive) path.rise path.fall

-- the specify block, where there is a path
unfoldable pub drive_paths_text : DriverModel → List ℕ
drive_paths_text m =
    if nat_lt 0 (length m.driver.paths) then codes "  specify\n"
    ++ (flat_map (drive_path_text m) m.driver.paths ++ codes "  endspecify\n")
    else []

-- the header's line
unfoldable pub driver_header_text : DriverModel → List ℕ
driver_header_text m = codes "`celldefine\nmodule " ++ (m.name ++ (codes " (" ++ (ports_text m.ports ++ codes ");\n")))

-- the declarations: inputs, outputs, the wires of data, those of enables
unfoldable pub driver_declarations_text : DriverModel → List ℕ
driver_declarations_text m =
    flat_map input_port_text m.ports
    ++ (flat_map output_port_text m.ports
    ++ (flat_map wire_text (all_numbered data_word (length m.driver.drives))
    ++ flat_map wire_text (all_numbered enable_word (length m.driver.drives))))

-- a driver with these bytes behind its paths: its header, its declarations, its core, its buffers and its paths
abbrev pub driver_before : List ℕ → DriverModel → List ℕ
driver_before end m =
    driver_header_text m
    ++ (driver_declarations_text m ++ (core_text m ++ (flat_map buffer_text (ports_of m) ++ (drive_paths_text m ++ end))))

-- a driver as a section of a text, from the first byte of its first token to the last byte of its last one
unfoldable pub driver_section : DriverModel → List ℕ
driver_section m = driver_before (codes "endmodule\n`endcelldefine") m

-- a driver: its section, and a line end
unfoldable pub driver_text : DriverModel → List ℕ
driver_text m = driver_before (codes "endmodule\n`endcelldefine\n") m
