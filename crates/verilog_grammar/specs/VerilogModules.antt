-- The grammar of modules in Verilog text: their headers, declarations and instances. (IEEE 1364-2005, 7.1, gates, 8.6, instances
-- of primitives, 12.1 and 12.3, modules and their ports, and A.1 to A.3.)
use Rattle.std.specs.Prelude.{ℕ, ◌+◌, Bool, true, false, not, ◌==◌, nat_lt, if◌then◌else◌, List, [], ◌∷◌, ◌++◌, length, map}
use Rattle.std.specs.Prelude.{slice_get, slice_set, Option, Some, None, is_some, codes}
use Rattle.std.specs.List.{list_any, list_all, position}
use Rattle.std.specs.Option.{option_map, option_map_or}
use Rattle.std.specs.Str.{bytes_eq}
use Rattle.grammar_rules.specs.Rule.{Verdict, Fits, Foul, Misfit}
use Rattle.grammar_rules.specs.Rule as r
use Rattle.udp_tables.specs.declared.table.Udp.{Udp}
use Rattle.udp_tables.specs.declared.models.VPort.{VPort}
use Rattle.specify_blocks.specs.declared.model.VNet.{VNet}
use Rattle.specify_blocks.specs.declared.model.VNet.TheVariants as net
use Rattle.specify_blocks.specs.declared.model.Instance.{Instance}
use Rattle.specify_blocks.specs.declared.model.Instance.TheVariants as instance
use Rattle.specify_blocks.specs.declared.model.VModule.{VModule}
use Rattle.specify_blocks.specs.Nets.{same_net, is_sequential, is_driven, holds_state, feeds_state, feeds_value, drivers}
use Rattle.verilog_tokens.specs.Tokens.{is_name}
use Rattle.grammar_reader.specs.declared.refusal.Refusal.{Refusal}
use Rattle.grammar_reader.specs.declared.refusal.Refusal.TheVariants.{Width, Undefined, Twice}
use Rattle.grammar_reader.specs.Words.{Grammar, ◌>>=◌, go_on_where, valued}
use Rattle.udp_tables.specs.VerilogRules.{expect, expect_where, begins, named, new_name, known, this_name, place_from}

-- the port's name
abbrev pub port_name : VPort → List ℕ
port_name port = port.name

-- the names of ports
abbrev pub port_names : List VPort → List (List ℕ)
port_names ports = map port_name ports

-- a name of the header, before it is declared an input
abbrev pub plain_port : List ℕ → VPort
plain_port name = record { name = name; input = false }

abbrev pub input_port : List ℕ → VPort
input_port name = record { name = name; input = true }

-- NAME in a header, behind others
unfoldable pub next_port : List VPort → Grammar (List VPort)
next_port ports = do
  name ← new_name (port_names ports)
  r.Gives (ports ++ plain_port name ∷ [])

abbrev pub first_port : List ℕ → Option (Verdict (List ℕ) Refusal)
first_port x = if is_name x then Some (Fits x) else None

-- { "," NAME }
unfoldable pub more_ports : List VPort → Grammar (List VPort)
more_ports ports = r.Many (λ _. begins (codes ",")) (λ ports _. next_port ports) ports

-- [ NAME { "," NAME } ]
unfoldable pub some_ports : Grammar (List VPort)
some_ports = r.Choice first_port (λ name. more_ports (plain_port name ∷ [])) (r.Gives [])

-- "(" [ NAME { "," NAME } ] ")" ";" (12.3.1)
unfoldable pub header : Grammar (List VPort)
header = do
  _ ← expect (codes "(")
  ports ← some_ports
  _ ← expect (codes ")")
  _ ← expect (codes ";")
  r.Gives ports

-- the ports of a header with those that are declared inputs, and the place behind the last of these
pub record Inputs : Type 0 where
  pub ports : List VPort
  pub behind : ℕ

abbrev pub with_input : List ℕ → List VPort → ℕ → Inputs
with_input name ports p = record { ports = slice_set ports p (input_port name); behind = p + 1 }

-- the next place of this name in the header, declared an input
abbrev pub input_at : Inputs → List ℕ → Option Inputs
input_at found x = option_map (with_input x found.ports)
    (place_from (λ (port : VPort). bytes_eq x port.name) found.behind found.ports)

-- NAME ";" behind "input": a name of the header behind the last one that was declared an input
unfoldable pub declared_input : Inputs → Grammar Inputs
declared_input found = do
  more ← known (input_at found)
  _ ← expect (codes ";")
  r.Gives more

-- { "input" NAME ";" } (12.3.3)
unfoldable pub declared_inputs : Inputs → Grammar Inputs
declared_inputs found = r.Many (λ _. begins (codes "input")) (λ found _. declared_input found) found

-- the next place, from this one on, of a name of the header that is no input
abbrev pub output_place : List VPort → ℕ → Option ℕ
output_place ports from = place_from (λ (port : VPort). not port.input) from ports

abbrev pub name_at : List VPort → Option ℕ → Option (List ℕ)
name_at ports None = None
name_at ports (Some p) = option_map port_name (slice_get ports p)

abbrev pub place_behind : ℕ → Option ℕ → ℕ
place_behind from None = from
place_behind from (Some p) = p + 1

-- NAME ";" behind "output": of the names of the header that are no inputs, the next one from this place on
unfoldable pub declared_output : List VPort → ℕ → Grammar ℕ
declared_output ports from = do
  _ ← this_name (name_at ports (output_place ports from))
  _ ← expect (codes ";")
  r.Gives (place_behind from (output_place ports from))

-- { "output" NAME ";" }, which has to declare all names of the header that are no inputs (12.3.3)
unfoldable pub declared_outputs : List VPort → Grammar (Unit {0})
declared_outputs ports = do
  from ← r.Many (λ _. begins (codes "output")) (λ from _. declared_output ports from) 0
  go_on_where (not (is_some (output_place ports from)))

-- NAME ";" behind "wire"
unfoldable pub declared_wire : List VPort → List (List ℕ) → Grammar (List (List ℕ))
declared_wire ports wires = do
  name ← new_name (port_names ports ++ wires)
  _ ← expect (codes ";")
  r.Gives (wires ++ name ∷ [])

-- { "wire" NAME ";" } (A.2.1.3)
unfoldable pub declared_wires : List VPort → Grammar (List (List ℕ))
declared_wires ports = r.Many (λ _. begins (codes "wire")) (λ wires _. declared_wire ports wires) []

-- NAME ";" behind "reg"
unfoldable pub declared_notifier : List VPort → List (List ℕ) → Grammar (Option (List ℕ))
declared_notifier ports wires = do
  name ← new_name (port_names ports ++ wires)
  _ ← expect (codes ";")
  r.Gives (Some name)

-- [ "reg" NAME ";" ] (A.2.1.3)
unfoldable pub notifier : List VPort → List (List ℕ) → Grammar (Option (List ℕ))
notifier ports wires = r.Choice (begins (codes "reg")) (λ _. declared_notifier ports wires) (r.Gives None)

-- The declarations behind the name of a module, which has these primitives: the module without instances.
unfoldable pub declarations : List ℕ → List Udp → Grammar VModule
declarations name udps = do
  plain ← header
  found ← declared_inputs (record { ports = plain; behind = 0 })
  _ ← declared_outputs found.ports
  wires ← declared_wires found.ports
  register ← notifier found.ports wires
  r.Gives (record {
    name = name;
    ports = found.ports;
    wires = wires;
    notifier = register;
    udps = udps;
    instances = [];
    paths =
        [];
    checks = [];
  })

-- the net of a name among the wires, and else the register
abbrev pub other_net : VModule → List ℕ → Option ℕ → Option VNet
other_net m x (Some w) = Some (net.Wire w)
other_net m x None = if option_map_or (bytes_eq x) m.notifier false then Some net.Notifier else None

abbrev pub net_by : VModule → List ℕ → Option ℕ → Option VNet
net_by m x (Some p) = Some (net.Port p)
net_by m x None = other_net m x (position (bytes_eq x) m.wires)

-- the net of a name: a port, a wire or the register
abbrev pub net_of : VModule → List ℕ → Option VNet
net_of m x = net_by m x (position (λ (port : VPort). bytes_eq x port.name) m.ports)

-- what a terminal of an instance says of a net: it is allowed here, and is not taken already
abbrev pub terminal_by : (VNet → Bool) → (VNet → Bool) → Option VNet → Verdict VNet Refusal
terminal_by is_allowed is_taken None = Misfit Undefined
terminal_by is_allowed is_taken (Some n) = if is_allowed n then (if is_taken n then Foul Twice n else Fits n)
    else Misfit Undefined

abbrev pub terminal : VModule → (VNet → Bool) → (VNet → Bool) → Grammar VNet
terminal m is_allowed is_taken = named (λ x. terminal_by is_allowed is_taken (net_of m x))

-- a net that is not driven yet, of those that an instance with a state or without one may drive
abbrev pub may_drive : VModule → Bool → VNet → Bool
may_drive m true n = holds_state m n
may_drive m false n = is_driven m n

abbrev pub is_driven_already : VModule → VNet → Bool
is_driven_already m n = nat_lt 0 (drivers m.instances n)

unfoldable pub driven_terminal : VModule → Bool → Grammar VNet
driven_terminal m sequential = terminal m (may_drive m sequential) (is_driven_already m)

-- a net that may feed an instance with a state or without one, and is none of its terminals
abbrev pub may_feed : VModule → Bool → VNet → Bool
may_feed m true n = feeds_state m n
may_feed m false n = feeds_value m m.instances n

unfoldable pub feeding_terminal : VModule → Bool → List VNet → Grammar VNet
feeding_terminal m sequential terminals = terminal m (may_feed m sequential) (λ n. list_any (same_net n) terminals)

-- NAME behind ",": one more input of an instance that drives this net
unfoldable pub next_input : VModule → Bool → VNet → List VNet → Grammar (List VNet)
next_input m sequential output inputs = do
  n ← feeding_terminal m sequential (output ∷ inputs)
  r.Gives (inputs ++ n ∷ [])

unfoldable pub more_inputs : VModule → Bool → VNet → List VNet → Grammar (List VNet)
more_inputs m sequential output inputs = r.Many (λ _. begins (codes ",")) (λ found _. next_input m sequential output found) inputs

-- how many inputs the primitive with this number has
abbrev pub input_count : List Udp → ℕ → ℕ
input_count udps j = option_map_or (λ (udp : Udp). length udp.inputs) (slice_get udps j) 0

-- the module with one instance more
abbrev pub with_instance : VModule → Instance → VModule
with_instance m i = record m { instances = m.instances ++ i ∷ [] }

-- "(" NAME "," NAME { "," NAME } ")" ";" behind the name of the primitive with this number (8.6): its output, then its inputs
unfoldable pub call : VModule → ℕ → Grammar VModule
call m j = do
  _ ← expect (codes "(")
  output ← driven_terminal m (is_sequential m.udps j)
  _ ← expect (codes ",")
  first ← next_input m (is_sequential m.udps j) output []
  inputs ← more_inputs m (is_sequential m.udps j) output first
  _ ← expect_where (length inputs == input_count m.udps j) Width (codes ")")
  _ ← expect (codes ";")
  r.Gives (with_instance m (instance.Primitive j output inputs))

-- a constant of one bit (3.5.1)
abbrev pub bit : List ℕ → Option Bool
bit x = if bytes_eq x (codes "1'b0") then Some false else (if bytes_eq x (codes "1'b1") then Some true else None)

-- "(" NAME "," ( "1'b0" | "1'b1" ) ")" ";" behind "buf" (7.3)
unfoldable pub constant : VModule → Grammar VModule
constant m = do
  _ ← expect (codes "(")
  output ← driven_terminal m false
  _ ← expect (codes ",")
  one ← valued bit
  _ ← expect (codes ")")
  _ ← expect (codes ";")
  r.Gives (with_instance m (instance.Constant output one))

-- the number of the primitive of a name
abbrev pub primitive_number : List Udp → List ℕ → Option ℕ
primitive_number udps x = position (λ (udp : Udp). bytes_eq x udp.name) udps

abbrev pub of_primitive : Option ℕ → Verdict (Option ℕ) Refusal
of_primitive None = Misfit Undefined
of_primitive (Some j) = Fits (Some j)

-- What a token begins among instances: one of the primitive with a number, or a buffer. A name is one of a primitive.
abbrev pub begins_instance : List Udp → List ℕ → Option (Verdict (Option ℕ) Refusal)
begins_instance udps x =
    if bytes_eq x (codes "buf") then Some (Fits None)
    else (if is_name x then Some (of_primitive (primitive_number udps x)) else None)

abbrev pub one_instance : VModule → Option ℕ → Grammar VModule
one_instance m None = constant m
one_instance m (Some j) = call m j

-- { instance }
unfoldable pub instances : VModule → Grammar VModule
instances m = r.Many (λ (m : VModule). begins_instance m.udps) one_instance m

-- the outputs among ports, of which the first has this number
abbrev pub output_nets : ℕ → List VPort → List VNet
output_nets p [] = []
output_nets p (port ∷ ports) = if port.input then output_nets (p + 1) ports else net.Port p ∷ output_nets (p + 1) ports

-- wires, of which the first has this number
abbrev pub wire_nets : ℕ → List (List ℕ) → List VNet
wire_nets w [] = []
wire_nets w (_ ∷ names) = net.Wire w ∷ wire_nets (w + 1) names

-- each output and each wire is driven
abbrev pub are_all_driven : VModule → Bool
are_all_driven m = list_all (is_driven_already m) (output_nets 0 m.ports ++ wire_nets 0 m.wires)
