-- The tokens of a written module's header, declarations and instances.
use Rattle.std.proofs.Common.{ℕ, Bool, true, false, not, if◌then◌else◌, List, [], ◌∷◌, ◌++◌, Option, Some, None, refl, codes}
use Rattle.std.proofs.Common.{flat_map}
use Rattle.std.specs.List.{AllByRecursion}
use Rattle.udp_tables.specs.declared.models.VPort.{VPort}
use Rattle.verilog_grammar.specs.specify_blocks.declared.model.VNet.{VNet}
use Rattle.verilog_grammar.specs.specify_blocks.declared.model.Instance.{Instance}
use Rattle.verilog_grammar.specs.specify_blocks.declared.model.Instance.TheVariants as instance
use Rattle.verilog_grammar.specs.specify_blocks.declared.model.VModule.{VModule}
use Rattle.verilog_grammar.specs.WellFormed.{IsName}
use Rattle.verilog_writer.specs.Nets.{primitive_at, net_at}
use Rattle.verilog_writer.specs.Model.{module_opening_text, next_port_text, ports_text, module_header_text, input_port_text}
use Rattle.verilog_writer.specs.Model.{output_port_text, wire_text, register_text, declarations_text, terminal_text, driver_text}
use Rattle.verilog_writer.specs.Model.{call_text, constant_text, instance_text}
use Rattle.grammar_reader.proofs.Spelling.{literal, joins, behind, nothing, each_spelled}
use Rattle.written_modules.proofs.Spelling.{Spells, Ends}
use Rattle.grammar_reader.proofs.Fronts.{Front, Anything, each, each_begins}
use Rattle.written_modules.proofs.Words.{name}
use Rattle.written_modules.proofs.PrimitiveTokens.{declared, comma, opened, closed, line_end, input_word, output_word}

-- Headers.

abbrev pub IsNamedPort : VPort → Type 0
IsNamedPort port = IsName port.name

abbrev pub next_port : VPort → Front
next_port port s = codes "," ∷ port.name ∷ s

abbrev pub listed : List VPort → Front
listed [] s = s
listed (port ∷ ports) s = port.name ∷ each next_port ports s

module_word : Spells Anything false (codes "module ") (λ s. codes "module" ∷ s) false
module_word = literal (λ r. refl) refl

a_port : (port : VPort) → IsNamedPort port → Spells Ends false (next_port_text port) (next_port port) false
a_port port n = behind comma (name port.name n)

port_begins : (port : VPort) (r : List ℕ) → Ends r → Ends (next_port_text port ++ r)
port_begins port r e = refl

pub ports : (all : List VPort) → AllByRecursion IsNamedPort all → Spells Ends false (ports_text all) (listed all) false
ports [] n = nothing
ports (port ∷ all) n = joins (name port.name n.0) (λ r q. each_begins Ends next_port_text port_begins all r q)
    (each_spelled IsNamedPort a_port port_begins all n.1)

pub header_spelled : (m : VModule) → IsName m.name → AllByRecursion IsNamedPort m.ports
    → Spells Anything false (module_header_text m)
    (λ s. codes "module" ∷ m.name ∷ codes "(" ∷ listed m.ports (codes ")" ∷ codes ";" ∷ s)) false
unfolding module_header_text module_opening_text
header_spelled m n all = behind (behind module_word (joins (name m.name n) (λ r q. refl) opened))
    (joins (ports m.ports all) (λ r q. refl) closed)

-- Declarations.

abbrev pub declared_where : Bool → List ℕ → List ℕ → Front
declared_where true word x s = declared word x s
declared_where false word x s = s

abbrev pub input_tokens : VPort → Front
input_tokens port s = declared_where port.input (codes "input") port.name s

abbrev pub output_tokens : VPort → Front
output_tokens port s = declared_where (not port.input) (codes "output") port.name s

abbrev pub register_tokens : Option (List ℕ) → Front
register_tokens None s = s
register_tokens (Some x) s = codes "reg" ∷ x ∷ codes ";" ∷ s

abbrev pub IsNamed : Option (List ℕ) → Type 0
IsNamed None = Unit {0}
IsNamed (Some x) = IsName x

input_by : (input : Bool) (x : List ℕ) → IsName x
    → Spells Anything false (if input then codes "  input " ++ (x ++ codes ";\n") else [])
    (declared_where input (codes "input") x) false
input_by true x n = behind input_word (joins (name x n) (λ r q. refl) line_end)
input_by false x n = nothing

pub input : (port : VPort) → IsNamedPort port → Spells Anything false (input_port_text port) (input_tokens port) false
unfolding input_port_text
input port n = input_by port.input port.name n

output_by : (input : Bool) (x : List ℕ) → IsName x
    → Spells Anything false (if input then [] else codes "  output " ++ (x ++ codes ";\n"))
    (declared_where (not input) (codes "output") x) false
output_by true x n = nothing
output_by false x n = behind output_word (joins (name x n) (λ r q. refl) line_end)

pub output : (port : VPort) → IsNamedPort port → Spells Anything false (output_port_text port) (output_tokens port) false
unfolding output_port_text
output port n = output_by port.input port.name n

wire_word : Spells Anything false (codes "  wire ") (λ s. codes "wire" ∷ s) false
wire_word = literal (λ r. refl) refl

pub wire : (x : List ℕ) → IsName x → Spells Anything false (wire_text x) (declared (codes "wire") x) false
unfolding wire_text
wire x n = behind wire_word (joins (name x n) (λ r q. refl) line_end)

register_word : Spells Anything false (codes "  reg ") (λ s. codes "reg" ∷ s) false
register_word = literal (λ r. refl) refl

register : (notifier : Option (List ℕ)) → IsNamed notifier
    → Spells Anything false (register_text notifier) (register_tokens notifier) false
register None n = nothing
register (Some x) n = behind register_word (joins (name x n) (λ r q. refl) line_end)

abbrev pub declaration_tokens : VModule → Front
declaration_tokens m s = each input_tokens m.ports
    (each output_tokens m.ports (each (declared (codes "wire")) m.wires (register_tokens m.notifier s)))

pub declarations_spelled : (m : VModule) → AllByRecursion IsNamedPort m.ports → AllByRecursion IsName m.wires → IsNamed m.notifier
    → Spells Anything false (declarations_text m) (declaration_tokens m) false
unfolding declarations_text
declarations_spelled m p w n =
    behind (each_spelled IsNamedPort input (λ x r q. tt) m.ports p)
    (behind (each_spelled IsNamedPort output (λ x r q. tt) m.ports p)
    (behind (each_spelled IsName wire (λ x r q. tt) m.wires w) (register m.notifier n)))

-- Instances.

abbrev pub IsNamedNet : VModule → VNet → Type 0
IsNamedNet m n = IsName (net_at m n)

abbrev pub AreNamed : VModule → Instance → Type 0
AreNamed m (instance.Primitive j output inputs) = IsName (primitive_at m j) × IsNamedNet m output
    × AllByRecursion (IsNamedNet m) inputs
AreNamed m (instance.Constant output one) = IsNamedNet m output

abbrev pub next_terminal : VModule → VNet → Front
next_terminal m n s = codes "," ∷ net_at m n ∷ s

abbrev pub bit_text : Bool → List ℕ
bit_text true = codes "1'b1"
bit_text false = codes "1'b0"

-- the first token of an instance, and the others
abbrev pub instance_start : VModule → Instance → List ℕ
instance_start m (instance.Primitive j output inputs) = primitive_at m j
instance_start m (instance.Constant output one) = codes "buf"

abbrev pub instance_more : VModule → Instance → Front
instance_more m (instance.Primitive j output inputs) s =
    codes "(" ∷ net_at m output ∷ each (next_terminal m) inputs (codes ")" ∷ codes ";" ∷ s)
instance_more m (instance.Constant output one) s =
    codes "(" ∷ net_at m output ∷ codes "," ∷ bit_text one ∷ codes ")" ∷ codes ";" ∷ s

abbrev pub instance_tokens : VModule → Instance → Front
instance_tokens m i s = instance_start m i ∷ instance_more m i s

terminal : (m : VModule) (n : VNet) → IsNamedNet m n → Spells Ends false (terminal_text m n) (next_terminal m n) false
unfolding terminal_text
terminal m n h = behind comma (name (net_at m n) h)

terminal_begins : (m : VModule) (n : VNet) (r : List ℕ) → Ends r → Ends (terminal_text m n ++ r)
unfolding terminal_text
terminal_begins m n r e = refl

pub indented : Spells Anything false (codes "  ") (λ s. s) false
indented = literal (λ r. refl) refl

buffer_word : Spells Anything false (codes "  buf (") (λ s. codes "buf" ∷ codes "(" ∷ s) false
buffer_word = literal (λ r. refl) refl

driver : (m : VModule) (j : ℕ) (output : VNet) → IsName (primitive_at m j) → IsNamedNet m output
    → Spells Ends false (driver_text m j output) (λ s. primitive_at m j ∷ codes "(" ∷ net_at m output ∷ s) false
unfolding driver_text
driver m j output n h = behind indented
    (joins (name (primitive_at m j) n) (λ r q. refl) (behind opened (name (net_at m output) h)))

terminals_begin : (m : VModule) (ns : List VNet) (r : List ℕ) → Ends ((flat_map (terminal_text m) ns ++ codes ");\n") ++ r)
unfolding terminal_text
terminals_begin m [] r = refl
terminals_begin m (n ∷ ns) r = refl

bit : (one : Bool) → Spells Anything false (if one then codes ", 1'b1);\n" else codes ", 1'b0);\n")
    (λ s. codes "," ∷ bit_text one ∷ codes ")" ∷ codes ";" ∷ s) false
bit true = literal (λ r. refl) refl
bit false = literal (λ r. refl) refl

bit_begins : (one : Bool) (r : List ℕ) → Ends ((if one then codes ", 1'b1);\n" else codes ", 1'b0);\n") ++ r)
bit_begins true r = refl
bit_begins false r = refl

pub instance_spelled : (m : VModule) (i : Instance) → AreNamed m i
    → Spells Anything false (instance_text m i) (instance_tokens m i) false
unfolding call_text constant_text
instance_spelled m (instance.Primitive j output inputs) h =
    joins (driver m j output h.0 h.1) (λ r q. terminals_begin m inputs r)
    (joins (each_spelled (IsNamedNet m) (terminal m) (terminal_begins m) inputs h.2) (λ r q. refl) closed)
instance_spelled m (instance.Constant output one) h =
    behind buffer_word (joins (name (net_at m output) h) (λ r q. bit_begins one r) (bit one))
