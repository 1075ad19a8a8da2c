-- The text of small drivers, by computing.
use Rattle.std.proofs.Common.{◌≡◌, ℕ, Bool, true, false, List, [], ◌∷◌, codes, refl}
use Rattle.std.specs.Fmt.{digits}
use Rattle.udp_tables.specs.declared.models.VPort.{VPort}
use Rattle.vhdl_writer.specs.Assignments.{glitch_data_text, assigned_variables_text, path_call_start_text, path_call_text}
use Rattle.vhdl_writer.specs.Assignments.{direct_text}
use Rattle.vhdl_writer.specs.Declarations.{port_text}
use Rattle.driven_traces.specs.declared.delays.DrivePath.{DrivePath}
use Rattle.driver_models.specs.declared.model.DriverModel.{DriverModel}
use Rattle.vhdl_drivers.specs.DriverText.{driver_header_text, signal_text, signals_text, core_text, process_text}
use Rattle.vhdl_drivers.specs.DriverText.{drive_path_text, driven_line, statements_text, driver_text}

abbrev port : List ℕ → Bool → VPort
port name input = record { name = name; input = input }

-- A driver of the one output of a cell.
plain : DriverModel
plain = record {
  name = codes "TB";
  core = codes "cell2";
  ports = port (codes "A") true ∷ port (codes "Y") false ∷ [];
  driver = record { inputs = 1; outputs = 1; drives = 0 ∷ []; paths = [] };
}

plain-text :
    driver_text plain
    ≡ codes "use work.all;\nlibrary IEEE;\nuse IEEE.std_logic_1164.all;\nuse IEEE.VITAL_Timing.all;\nuse IEEE.VITAL_Primitives.all;\nentity TB is\n  port (A : in std_ulogic; Y : out std_ulogic);\nend TB;\narchitecture driven of TB is\n  signal d_1 : std_ulogic;\n  signal e_1 : std_ulogic;\nbegin\n  u_1 : entity work.cell2 port map (A, d_1, e_1);\n  process (A, d_1, e_1)\n    variable z_1 : std_logic := 'X';\n  begin\n    z_1 := VitalBUFIF1 (d_1, e_1);\n    Y <= z_1;\n  end process;\nend driven;\n"
unfolding plain digits port_text driver_header_text signal_text signals_text core_text process_text
    assigned_variables_text direct_text driven_line statements_text driver_text
plain-text = refl

abbrev path : ℕ → ℕ → ℕ → ℕ → DrivePath
path from drive rise fall = record { from = from; drive = drive; rise = rise; fall = fall }

-- A driver of two of three outputs, of which the second has two paths, and no input stands before the first of them.
gated : DriverModel
gated = record {
  name = codes "TW";
  core = codes "cell7";
  ports = port (codes "Y") false ∷ port (codes "A") true ∷ port (codes "N") false ∷ port (codes "B") true ∷ port
      (codes "Z") false ∷ [];
  driver = record { inputs = 2; outputs = 3; drives = 0 ∷ 2 ∷ []; paths = path 1 1 4 8 ∷ path 0 1 5 9 ∷ [] };
}

gated-text :
    driver_text gated
    ≡ codes "use work.all;\nlibrary IEEE;\nuse IEEE.std_logic_1164.all;\nuse IEEE.VITAL_Timing.all;\nuse IEEE.VITAL_Primitives.all;\nentity TW is\n  port (Y : out std_ulogic; A : in std_ulogic; N : out std_ulogic; B : in std_ulogic; Z : out std_ulogic);\nend TW;\narchitecture driven of TW is\n  signal d_1 : std_ulogic;\n  signal d_2 : std_ulogic;\n  signal e_1 : std_ulogic;\n  signal e_2 : std_ulogic;\nbegin\n  u_1 : entity work.cell7 port map (d_1, A, N, B, d_2, e_1, e_2);\n  process (A, B, d_1, d_2, e_1, e_2)\n    variable z_1 : std_logic := 'X';\n    variable z_2 : std_logic := 'X';\n    variable g_2 : VitalGlitchDataType;\n  begin\n    z_1 := VitalBUFIF1 (d_1, e_1);\n    z_2 := VitalBUFIF1 (d_2, e_2);\n    Y <= z_1;\n    VitalPathDelay01 (OutSignal => Z, GlitchData => g_2, OutSignalName => \"Z\", OutTemp => z_2, Paths => (0 => (B'last_event, (4 ps, 8 ps), true), 1 => (A'last_event, (5 ps, 9 ps), true)), Mode => VitalTransport);\n  end process;\nend driven;\n"
unfolding gated digits port_text driver_header_text signal_text signals_text core_text process_text
    glitch_data_text assigned_variables_text drive_path_text path_call_start_text path_call_text direct_text
    driven_line statements_text driver_text
gated-text = refl
