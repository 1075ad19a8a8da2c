-- The text of small modules, by computing.
use Rattle.std.proofs.Common.{◌≡◌, ℕ, Bool, true, false, List, [], ◌∷◌, Option, Some, None, codes, refl}
use Rattle.std.specs.Fmt.{digits}
use Rattle.cell_machine.specs.declared.checks.CheckKind.{CheckKind}
use Rattle.cell_machine.specs.declared.checks.CheckKind.TheVariants as check_kind
use Rattle.cell_machine.specs.declared.checks.Edge.{Edge}
use Rattle.cell_machine.specs.declared.checks.Edge.TheVariants as edge
use Rattle.cell_machine.specs.declared.checks.Event.{Event}
use Rattle.udp_tables.specs.declared.table.Udp.{Udp}
use Rattle.specify_blocks.specs.declared.model.VNet.TheVariants as net
use Rattle.specify_blocks.specs.declared.model.Instance.TheVariants as instance
use Rattle.specify_blocks.specs.declared.model.Gate.{Gate}
use Rattle.specify_blocks.specs.declared.model.Gate.TheVariants as gate
use Rattle.specify_blocks.specs.declared.model.VPath.{VPath}
use Rattle.udp_tables.specs.declared.models.VPort.{VPort}
use Rattle.udp_tables.specs.declared.timing_checks.TimingCheck.{TimingCheck}
use Rattle.specify_blocks.specs.declared.model.VModule.{VModule}
use Rattle.verilog_writer.specs.Timing.{gate_text, delays_text, path_text, ordered_text, turned_text, width_text, period_line}
use Rattle.verilog_writer.specs.Timing.{period_text, check_text, lines_text, block_text}
use Rattle.verilog_writer.specs.Model.{module_opening_text, module_header_text, input_port_text, output_port_text}
use Rattle.verilog_writer.specs.Model.{wire_text, declarations_text, terminal_text, driver_text, call_text, constant_text}
use Rattle.verilog_writer.specs.Model.{module_only_text}

abbrev port : List ℕ → Bool → VPort
port name input = record { name = name; input = input }

primitive : List ℕ → Bool → Udp
primitive name sequential = record { name = name; output = codes "q"; inputs = []; sequential = sequential; rows = [] }

abbrev event : ℕ → Edge → Event
event p e = record { pin = p; edge = e }

check : CheckKind → ℕ → ℕ → Edge → ℕ → Edge → Option ℕ → TimingCheck
check kind limit p e q f condition =
    record { kind = kind; first = event p e; second = event q f; limit = limit; condition = condition }

-- A flip-flop with a setup of 50 of D before rising CK, and delays of 100 and 120 from CK to Q.
flip_flop : VModule
flip_flop =
    record {
      name = codes "DFFT";
      ports = port (codes "CK") true ∷ port (codes "D") true ∷ port (codes "Q") false ∷ [];
      wires = codes "lib_s1" ∷ [];
      notifier = Some (codes "lib_n");
      udps = primitive (codes "lib_1_1") true ∷ primitive (codes "lib_1_2") false ∷ [];
      instances =
          instance.Primitive 0 (net.Wire 0) (net.Port 0 ∷ net.Port 1 ∷ net.Notifier ∷ [])
          ∷ instance.Primitive 1 (net.Port 2) (net.Wire 0 ∷ []) ∷ [];
      paths = record { from = 0; to = 2; rise = 100; fall = 120; gate = gate.Always } ∷ [];
      checks = check check_kind.Setup 50 1 edge.Any 0 edge.Rise None ∷ [];
    }

its-text :
    module_only_text flip_flop
    ≡ codes "module DFFT (CK, D, Q);\n  input CK;\n  input D;\n  output Q;\n  wire lib_s1;\n  reg lib_n;\n  lib_1_1 (lib_s1, CK, D, lib_n);\n  lib_1_2 (Q, lib_s1);\n  specify\n    (CK => Q) = (100, 120);\n    $setup(D, posedge CK, 50, lib_n);\n  endspecify\nendmodule\n"
unfolding check flip_flop primitive digits gate_text delays_text path_text ordered_text check_text lines_text block_text
    module_opening_text module_header_text input_port_text output_port_text wire_text declarations_text
    terminal_text driver_text call_text module_only_text
its-text = refl

-- A cell with the one output Y, which is always 1.
tied : VModule
tied =
    record {
      name = codes "TIE";
      ports = port (codes "Y") false ∷ [];
      wires = [];
      notifier = None;
      udps = [];
      instances = instance.Constant (net.Port 0) true ∷ [];
      paths = [];
      checks = [];
    }

tied-text : module_only_text tied ≡ codes "module TIE (Y);\n  output Y;\n  buf (Y, 1'b1);\nendmodule\n"
unfolding tied lines_text block_text module_opening_text module_header_text input_port_text output_port_text
    wire_text declarations_text constant_text module_only_text
tied-text = refl

-- a path from CK to Q under a condition, and beside conditions
path : Gate → VPath
path when = record { from = 0; to = 2; rise = 5; fall = 7; gate = when }

conditional-path : path_text flip_flop (path (gate.If 0)) ≡ codes "    if (lib_s1) (CK => Q) = (5, 7);\n"
unfolding flip_flop path digits gate_text delays_text path_text
conditional-path = refl

other-path : path_text flip_flop (path gate.IfNone) ≡ codes "    ifnone (CK => Q) = (5, 7);\n"
unfolding flip_flop path digits gate_text delays_text path_text
other-path = refl

-- Checks of CK and D.

hold-text : check_text flip_flop (check check_kind.Hold 8 0 edge.Rise 1 edge.Any (Some 0)) ≡ codes
    "    $hold(posedge CK, D &&& lib_s1, 8, lib_n);\n"
unfolding flip_flop check digits ordered_text check_text
hold-text = refl

recovery-text : check_text flip_flop (check check_kind.Recovery 8 0 edge.Fall 1 edge.Rise None) ≡ codes
    "    $recovery(negedge CK, posedge D, 8, lib_n);\n"
unfolding flip_flop check digits ordered_text check_text
recovery-text = refl

removal-text : check_text flip_flop (check check_kind.Removal 8 0 edge.Rise 1 edge.Fall (Some 0)) ≡ codes
    "    $removal(negedge D &&& lib_s1, posedge CK, 8, lib_n);\n"
unfolding flip_flop check digits turned_text check_text
removal-text = refl

width-text : check_text flip_flop (check check_kind.Width 8 0 edge.Rise 1 edge.Fall (Some 0)) ≡ codes
    "    $width(posedge CK &&& lib_s1, 8, 0, lib_n);\n"
unfolding flip_flop check digits width_text check_text
width-text = refl

period-text :
    check_text flip_flop (check check_kind.Period 8 0 edge.Any 1 edge.Any None)
    ≡ codes "    $period(posedge CK, 8, lib_n);\n    $period(negedge CK, 8, lib_n);\n"
unfolding flip_flop check digits period_line period_text check_text
period-text = refl
