-- Verilog texts, with faults and without, and what they are by computing.
use Rattle.std.proofs.Common.{◌≡◌, ℕ, List, [], ◌∷◌, ◌++◌, codes, refl}
use Rattle.udp_tables.specs.declared.models.ModelFault.TheVariants.{Lexical, Syntax, Twice, TwoEdges, Undefined, Undriven}
use Rattle.udp_tables.specs.declared.models.ModelFault.TheVariants.{Unequal, Width}
use Rattle.udp_tables.proofs.FaultCases.{at, behind, AreFaults}
use Rattle.verilog_tokens.specs.Words.{verilog_words, is_verilog_word}
use Rattle.udp_tables.specs.VerilogPrimitives as udp
use Rattle.verilog_grammar.specs.VerilogModules as m
use Rattle.verilog_grammar.specs.VerilogBlocks as block
use Rattle.verilog_grammar.specs.VerilogText as text
use Rattle.verilog_grammar.specs.VerilogText.{verilog_text}
use Rattle.verilog_grammar.proofs.VerilogReadings.{Readings}

-- what stands before the first primitive or module
abbrev behind-prelude : List ℕ
behind-prelude = codes "`timescale 1ps/1ps\n"

-- the prelude and an inverter
abbrev behind-inverter : List ℕ
behind-inverter = behind-prelude ++ codes
    "primitive inv (q, a);\n  output q;\n  input a;\n  table\n    0 : 1;\n    1 : 0;\n  endtable\nendprimitive\n"

-- a primitive without a state up to its rows, with one input and with two
abbrev rows-of-one : List ℕ
rows-of-one = behind-prelude ++ codes "primitive p (q, a);\n  output q;\n  input a;\n  table "

abbrev rows-of-two : List ℕ
rows-of-two = behind-prelude ++ codes "primitive p (q, a, b);\n  output q;\n  input a;\n  input b;\n  table "

-- a primitive with a state up to its rows, with one input and with two
abbrev rows-of-one-with-state : List ℕ
rows-of-one-with-state = behind-prelude ++ codes "primitive p (q, a);\n  output q;\n  reg q;\n  input a;\n  table "

abbrev rows-of-two-with-state : List ℕ
rows-of-two-with-state = behind-prelude ++ codes "primitive p (q, a, b);\n  output q;\n  reg q;\n  input a;\n  input b;\n  table "

-- a module with the input A and the output Y up to its instances, behind an inverter
abbrev in-module : List ℕ
in-module = behind-inverter ++ codes "module M (A, Y);\n  input A;\n  output Y;\n"

-- a module with the inputs C and D, the output Q, the wire s and the register n up to its instances, behind a flip-flop and an
-- inverter
abbrev in-keeper : List ℕ
in-keeper = behind-prelude ++ codes
    "primitive keep (q, c, d, n);\n  output q;\n  reg q;\n  input c;\n  input d;\n  input n;\n  table\n    (01) 1 ? : ? : 1;\n  endtable\nendprimitive\nprimitive inv (q, a);\n  output q;\n  input a;\n  table\n    0 : 1;\n    1 : 0;\n  endtable\nendprimitive\nmodule M (C, D, Q);\n  input C;\n  input D;\n  output Q;\n  wire s;\n  reg n;\n"

-- the module of one input with its instances, up to the paths and checks of its specify block
abbrev in-block : List ℕ
in-block = in-module ++ codes "  inv (Y, A);\n  specify "

-- the module with a state, with its instances, up to the paths and checks of its specify block
abbrev keeper-block : List ℕ
keeper-block = in-keeper ++ codes "  keep (s, C, D, n);\n  inv (Q, s);\n  specify "

-- The modules and the faults of texts, as they are by computing.
examples : Readings × AreFaults verilog_text (
    -- The rows of a table: two changes, a wrong number of entries, and symbols that stand at no such place.
    behind rows-of-two-with-state (
    at "(01) (01) : ? : 1; endtable" TwoEdges 5
    ∷ at "(01) r : ? : 1;" TwoEdges 5
    ∷ at "* * : ? : 1;" TwoEdges 2 ∷ []
    )
    ++ behind rows-of-one (
    at "0 1: 1;" Width 3
    ∷ at "r : 1;" Syntax 0
    ∷ at "0 : 1 : 1;" Syntax 6
    ∷ at "0 : -;" Syntax 4
    ∷ at "0 : ?;" Syntax 4
    ∷ at "0 : b;" Syntax 4
    ∷ at ": 1;" Syntax 0
    ∷ at "0 : 1; xendtabl" Syntax 8 ∷ []
    )
    ++ behind rows-of-two (
    at "0 : 1;" Width 2 ∷ []
    )
    ++ behind rows-of-one-with-state (
    at "0 : b : ?;" Syntax 8
    ∷ at "0 : B : -; xy" Syntax 12 ∷ []
    )
    -- Headers and declarations: of a primitive, and of a module.
    ++ behind behind-prelude (
    at "primitive p (q, q);" Twice 16
    ∷ at "primitive p (q);" Syntax 14
    ∷ at "primitive p (q, a, b, c, d, e, f, g, h, i, j, k);" Width 47
    ∷ at "primitive p (q, a, b, c, d, e, f, g, h, i, j);\n  output q;\n  reg q;" Width 61
    ∷ at "primitive p (q, a); output a;" Undefined 27
    ∷ at "primitive p (q, a, b); output q; input b;" Undefined 39
    ∷ at "primitive p (q, a, b); output q; input a; table" Syntax 42
    ∷ at "primitive p (q, a); output q; input a; input a;" Undefined 45
    ∷ at "module M (A, A);" Twice 13
    ∷ at "module M (A, Y); input A; wire w;" Syntax 26
    ∷ at "module M (A, Y); input B;" Undefined 23
    ∷ at "module M (B, A); input A; input B;" Undefined 32
    ∷ at "module M (A, Y); input A; output Y; output Y;" Undefined 43
    ∷ at "module M (A); input A; wire A;" Twice 28
    ∷ at "module M (A); input A; wire w; wire w;" Twice 36
    ∷ at "module M (A); input A; reg A;" Twice 27
    ∷ at "module M (); endmodule module M ();" Twice 30
    ∷ at "module wire ();" Syntax 7 ∷ []
    )
    ++ behind behind-inverter (
    at "module M (A, Y); input A; inv (Y, A);" Syntax 26
    ∷ at "module inv ();" Twice 7 ∷ []
    )
    -- Instances: which primitives and nets may stand where, and what drives a net.
    ++ behind in-module (
    at "  other (Y, A);" Undefined 2
    ∷ at "  inv (Y, A);\nendmodule\nmodule N (A, Y); input A; output Y; inv (Y, A);" Undefined 60
    ∷ at "  inv (Y, A, A);" Twice 13
    ∷ at "  inv (Y, A, Z);" Undefined 13
    ∷ at "  inv (Y, Y);" Undefined 10
    ∷ at "  inv (A, A);" Undefined 7
    ∷ at "  inv (Y, A); inv (Y, A);" Twice 19
    ∷ at "  inv (Y, A); buf (Y, 1'b0);" Twice 19
    ∷ at "  buf (Y, 1);" Syntax 10
    ∷ at "  endmodule" Undriven 2 ∷ []
    )
    ++ behind in-keeper (
    at "  inv (Q, C, D);" Width 14
    ∷ at "  keep (Q, C, D, n);" Undefined 8
    ∷ at "  keep (s, C, C, n);" Twice 14
    ∷ at "  keep (s, C, D);" Width 15
    ∷ at "  inv (Q, s);" Undefined 10
    ∷ at "  keep (s, C, D, n); inv (Q, n);" Undefined 29
    ∷ at "  keep (s, C, D, n); inv (Q, s); specify $setup(D, C &&& s, 1, n);" Undefined 57
    ∷ at "  keep (s, C, D, n); endmodule" Undriven 21 ∷ []
    )
    -- Specify blocks.
    ++ behind in-block (
    at "(Y => A) = (1, 2);" Undefined 1
    ∷ at "(A => A) = (1, 2);" Undefined 6
    ∷ at "if (A) (A => Y) = (1, 2);" Undefined 4
    ∷ at "$setup(A, A, 1, n);" Undefined 16 ∷ []
    )
    ++ behind keeper-block (
    at "$setup(D, C, 1, D);" Undefined 16
    ∷ at "$setup(D, Q, 1, n);" Undefined 10
    ∷ at "$width(C, 1, 0, n);" Syntax 7
    ∷ at "$width(posedge C, 1, 00, n);" Syntax 21
    ∷ at "$setup(D, C, 1, n); (C => Q) = (1, 2);" Syntax 20
    ∷ at "$period(posedge C, 10, n); $period(negedge C, 11, n);" Unequal 46
    ∷ at "$period(posedge C, 10, n); $period(negedge D, 10, n);" Undefined 43
    ∷ at "$period(posedge C, 10, n); $hold(C, D, 10, n);" Syntax 27 ∷ []
    )
    -- The first fault decides, and tokens that stop.
    ++ behind behind-prelude (
    at "module M (A, A); input A; " Twice 13
    ∷ at "module M /* (A);" Lexical 9
    ∷ at "1234567890123456" Lexical 0
    ∷ at "module M (A, A); input 1234567890123456" Twice 13 ∷ []
    )
    ++ behind [] (
    at "`timescale 1psx" Syntax 14
    ∷ at "" Syntax 0 ∷ []
    )
    ++ behind behind-inverter (
    at "" Syntax 0
    ∷ at "module M (A, Y); input A; output Y; inv (Y, A); endmodule ?" Lexical 58 ∷ []
    )
    )
unfolding verilog_words is_verilog_word verilog_text text.file text.prelude text.designs text.one_module text.next_primitive
    text.more_primitives text.next_module text.primitives_and_module udp.primitive udp.table udp.row udp.state_and_next
    udp.output_level udp.pair udp.declared_inputs udp.declared_input udp.register udp.declared_state udp.declared_output
    udp.header udp.next_input udp.more_inputs udp.next_entry udp.more_entries udp.next_row m.header m.next_port m.more_ports
    m.some_ports m.declared_inputs m.declared_wires m.notifier m.driven_terminal m.feeding_terminal m.next_input m.more_inputs
    m.instances m.declared_input m.declared_output m.declared_outputs m.declared_wire m.declared_notifier m.declarations m.call
    m.constant block.a_number block.an_input block.an_output block.a_condition block.path_gate block.next_path block.paths
    block.any_edge block.condition block.same_condition block.same_number block.check_of_kind block.next_check block.checks
    block.specify block.if_gate block.ifnone_gate block.path block.an_event block.an_edge_event block.condition_name
    block.check_end block.ordered_check block.turned_check block.width_check block.second_period block.period_check block.check
    block.block
examples = ((refl, refl, refl, refl, refl, refl), refl)
