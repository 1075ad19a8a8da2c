-- The text of small drivers, by computing.
use Rattle.std.proofs.Common.{◌≡◌, ℕ, Bool, true, false, List, [], ◌∷◌, codes, refl}
use Rattle.std.specs.Fmt.{digits}
use Rattle.udp_tables.specs.declared.models.VPort.{VPort}
use Rattle.driver_models.specs.declared.model.DriverModel.{DriverModel}
use Rattle.verilog_writer.specs.Model.{input_port_text, output_port_text, wire_text}
use Rattle.verilog_drivers.specs.DriverText.{core_text, drive_path_text, drive_paths_text, driver_header_text}
use Rattle.verilog_drivers.specs.DriverText.{driver_declarations_text, driver_text}

abbrev port : List ℕ → Bool → VPort
port name input = record { name = name; input = input }

-- A driver of the one output of a cell, with a path from its second input.
gated : DriverModel
gated = record {
  name = codes "TB";
  core = codes "cell2";
  ports = port (codes "A") true ∷ port (codes "OE") true ∷ port (codes "N") false ∷ port (codes "Y") false ∷ [];
  driver = record { inputs = 2; outputs = 2; drives = 1 ∷ []; paths = record { from = 1; drive = 0; rise = 11; fall = 7 } ∷ [] };
}

its-text :
    driver_text gated
    ≡ codes "`celldefine\nmodule TB (A, OE, N, Y);\n  input A;\n  input OE;\n  output N;\n  output Y;\n  wire lib_d1;\n  wire lib_e1;\n  cell2 lib_u (A, OE, N, lib_d1, lib_e1);\n  bufif1 (Y, lib_d1, lib_e1);\n  specify\n    (OE => Y) = (11, 7);\n  endspecify\nendmodule\n`endcelldefine\n"
unfolding gated digits input_port_text output_port_text wire_text core_text drive_path_text drive_paths_text
    driver_header_text driver_declarations_text driver_text
its-text = refl
