-- Verilog texts, and the modules that they are.
use Rattle.std.proofs.Common.{◌≡◌, ℕ, Bool, true, false, List, [], ◌∷◌, Some, None, Ok, codes}
use Rattle.udp_tables.proofs.FlipFlop.{flip-flop-ports, flip-flop-checks}
use Rattle.udp_tables.specs.declared.table.Level.{Level}
use Rattle.udp_tables.specs.declared.table.Level.TheVariants as level
use Rattle.udp_tables.specs.declared.table.Entry.{Entry}
use Rattle.udp_tables.specs.declared.table.Entry.TheVariants as entry
use Rattle.udp_tables.specs.declared.table.Next.{Next}
use Rattle.udp_tables.specs.declared.table.Next.TheVariants as next
use Rattle.udp_tables.specs.declared.table.UdpRow.{UdpRow}
use Rattle.udp_tables.specs.declared.table.Udp.{Udp}
use Rattle.specify_blocks.specs.declared.model.VNet.TheVariants as net
use Rattle.specify_blocks.specs.declared.model.Instance.TheVariants as instance
use Rattle.specify_blocks.specs.declared.model.Gate.TheVariants as gate
use Rattle.specify_blocks.specs.declared.model.VModule.{VModule}
use Rattle.verilog_grammar.specs.VerilogText.{verilog_text}

-- the bytes are these modules
abbrev Reads : List ℕ → List VModule → Type 0
Reads bytes modules = verilog_text bytes ≡ Ok modules

abbrev level-row : List Entry → Next → UdpRow
level-row inputs next = record { inputs = inputs; state = level.Any; next = next }

abbrev row : Level → List Entry → Next → UdpRow
row state inputs next = record { inputs = inputs; state = state; next = next }

abbrev primitive : List ℕ → List (List ℕ) → Bool → List UdpRow → Udp
primitive name inputs sequential rows =
    record { name = name; output = codes "q"; inputs = inputs; sequential = sequential; rows = rows }

abbrev state-primitive : Udp
state-primitive =
    primitive (codes "lib_1_1") (codes "i1" ∷ codes "i2" ∷ codes "i3" ∷ []) true (
    row level.Any (entry.Level level.Any ∷ entry.Level level.Any ∷ entry.Star ∷ []) next.Unknown
    ∷ row level.Any (entry.Pair level.Zero level.One ∷ entry.Level level.One ∷ entry.Level level.Any ∷ []) next.One
    ∷ row level.One (entry.Pair level.One level.Any ∷ entry.Level level.Any ∷ entry.Level level.Any ∷ []) next.One
    ∷ row level.One (entry.Pair level.Any level.Zero ∷ entry.Level level.Any ∷ entry.Level level.Any ∷ []) next.One
    ∷ row level.One (entry.Star ∷ entry.Level level.One ∷ entry.Level level.Any ∷ []) next.One
    ∷ row level.Any (entry.Pair level.Zero level.One ∷ entry.Level level.Zero ∷ entry.Level level.Any ∷ []) next.Zero
    ∷ row level.Zero (entry.Pair level.One level.Any ∷ entry.Level level.Any ∷ entry.Level level.Any ∷ []) next.Zero
    ∷ row level.Zero (entry.Pair level.Any level.Zero ∷ entry.Level level.Any ∷ entry.Level level.Any ∷ []) next.Zero
    ∷ row level.Zero (entry.Star ∷ entry.Level level.Zero ∷ entry.Level level.Any ∷ []) next.Zero
    ∷ row level.One (entry.Level level.Any ∷ entry.Star ∷ entry.Level level.Any ∷ []) next.One
    ∷ row level.Zero (entry.Level level.Any ∷ entry.Star ∷ entry.Level level.Any ∷ []) next.Zero ∷ []
    )

abbrev output-primitive : Udp
output-primitive =
    primitive (codes "lib_1_2") (codes "i1" ∷ []) false
    (level-row (entry.Level level.One ∷ []) next.One ∷ level-row (entry.Level level.Zero ∷ []) next.Zero ∷ [])

abbrev flip-flop : VModule
flip-flop =
    record {
      name = codes "DFFT";
      ports = flip-flop-ports;
      wires = codes "lib_s1" ∷ [];
      notifier = Some (codes "lib_n");
      udps = state-primitive ∷ output-primitive ∷ [];
      instances =
          instance.Primitive 0 (net.Wire 0) (net.Port 0 ∷ net.Port 1 ∷ net.Notifier ∷ [])
          ∷ instance.Primitive 1 (net.Port 2) (net.Wire 0 ∷ []) ∷ [];
      paths = record { from = 0; to = 2; rise = 100; fall = 120; gate = gate.Always } ∷ [];
      checks = flip-flop-checks;
    }

-- the text of the flip-flop, with its rows in plain form
abbrev flip-flop-text : List ℕ
flip-flop-text = codes "`timescale 1ps/1ps\nprimitive lib_1_1 (q, i1, i2, i3);\n  output q;\n  reg q;\n  input i1;\n  input i2;\n  input i3;\n  table\n    ? ? * : ? : x;\n    (01) 1 ? : ? : 1;\n    (1?) ? ? : 1 : 1;\n    (?0) ? ? : 1 : 1;\n    * 1 ? : 1 : 1;\n    (01) 0 ? : ? : 0;\n    (1?) ? ? : 0 : 0;\n    (?0) ? ? : 0 : 0;\n    * 0 ? : 0 : 0;\n    ? * ? : 1 : 1;\n    ? * ? : 0 : 0;\n  endtable\nendprimitive\nprimitive lib_1_2 (q, i1);\n  output q;\n  input i1;\n  table\n    1 : 1;\n    0 : 0;\n  endtable\nendprimitive\nmodule DFFT (CK, D, Q);\n  input CK;\n  input D;\n  output Q;\n  wire lib_s1;\n  reg lib_n;\n  lib_1_1 (lib_s1, CK, D, lib_n);\n  lib_1_2 (Q, lib_s1);\n  specify\n    (CK => Q) = (100, 120);\n    $setup(D, posedge CK, 50, lib_n);\n  endspecify\nendmodule\n"

abbrev plain : List ℕ → VModule
plain name =
    record { name = name; ports = []; wires = []; notifier = None; udps = []; instances = []; paths = []; checks = [] }

abbrev tied : List Udp → VModule
tied udps =
    record {
      name = codes "T";
      ports = record { name = codes "B"; input = false } ∷ record { name = codes "A"; input = true } ∷ [];
      wires = [];
      notifier = None;
      udps = udps;
      instances = instance.Constant (net.Port 0) true ∷ [];
      paths = [];
      checks = [];
    }

abbrev dense : Udp
dense =
    primitive (codes "p") (codes "a" ∷ codes "b" ∷ codes "c" ∷ []) true (
    row level.One (entry.Level level.Zero ∷ entry.Level level.One ∷ entry.Level level.Any ∷ []) next.One
    ∷ row level.Any (entry.Level level.Unknown ∷ entry.Pair level.Zero level.Unknown ∷ entry.Level level.Binary ∷ []) next.Keep
    ∷ []
    )

-- The flip-flop; no module; modules without ports; ports declared in another order than the header's, an empty specify block, a
-- primitive that no instance names; and tokens with nothing between them, with blanks and with comments.
abbrev pub Readings : Type 0
Readings =
    Reads flip-flop-text (flip-flop ∷ [])
    × Reads (codes "`timescale 1ps/1ps\n") []
    × Reads (codes "`timescale 1ps/1ps\nmodule M (); endmodule module N (); endmodule")
    (plain (codes "M") ∷ plain (codes "N") ∷ [])
    × Reads (codes "`timescale 1ps/1ps\nmodule T (B, A); input A; output B; buf (B, 1'b1); specify endspecify endmodule")
    (tied [] ∷ [])
    × Reads (codes "`timescale 1ps/1ps primitive p(q,a,b,c);output q;reg q;input a;input b;input c;table 01?:1:1;X(0x)B:?:-;endtable endprimitive module T(B,A);input A;output B;buf(B,1'b1);endmodule")
    (tied (dense ∷ []) ∷ [])
    × Reads (codes "`timescale/* * / **/1ps/1ps//\nmodule\tT ( B//, C\n,A);input A/**/;output B;buf(B,1'b1);endmodule// the end")
    (tied [] ∷ [])
