-- The paths of a written module are read from their tokens.
use Rattle.std.proofs.Common.{◌≡◌, ℕ, Bool, true, IsTrue, List, [], ◌∷◌, ◌++◌, Some, slice_get, refl, sym, ap, ◌∙◌, subst}
use Rattle.std.proofs.Common.{decimal}
use Rattle.std.specs.List.{AllByRecursion, position}
use Rattle.std.specs.Str.{bytes_eq}
use Rattle.grammar_rules.specs.Rule.{Fits}
use Rattle.udp_tables.specs.declared.models.VPort.{VPort}
use Rattle.verilog_grammar.specs.specify_blocks.declared.model.VNet.TheVariants as net
use Rattle.verilog_grammar.specs.specify_blocks.declared.model.Gate.{Gate}
use Rattle.verilog_grammar.specs.specify_blocks.declared.model.Gate.TheVariants as gate
use Rattle.verilog_grammar.specs.specify_blocks.declared.model.VPath.{VPath}
use Rattle.verilog_grammar.specs.specify_blocks.declared.model.VModule.{VModule}
use Rattle.verilog_grammar.specs.specify_blocks.Nets.{is_output_port, is_value}
use Rattle.udp_tables.specs.Ports.{is_input_port}
use Rattle.verilog_grammar.specs.specify_blocks.Sound.{is_gate, IsPath}
use Rattle.verilog_grammar.specs.WellFormed.{IsNumber, HasNumbers, register_names}
use Rattle.verilog_grammar.specs.VerilogModules.{port_name}
use Rattle.verilog_grammar.specs.VerilogBlocks.{a_number, kept, port_of, an_input, an_output, a_condition, is_path_start, if_gate}
use Rattle.verilog_grammar.specs.VerilogBlocks.{ifnone_gate, path_gate, path, next_path}
use Rattle.grammar_reader.specs.declared.refusal.Refusal.TheVariants.{Syntax}
use Rattle.grammar_reader.specs.Words.{begins_by, allowed_by}
use Rattle.verilog_writer.specs.Nets.{port_at, wire_at}
use Rattle.written_modules.proofs.TimingTokens.{IsNamedGate, IsNamedPath, gate_start, gate_more, delay_tokens, path_tokens}
use Rattle.grammar_reader.proofs.Bytes.{number_is}
use Rattle.grammar_reader.proofs.Derivations.{Reads, gives, token, in_turn, Turn, turn}
use Rattle.written_modules.proofs.NameReading.{expected, known_as}
use Rattle.grammar_reader.proofs.ItemPlaces.{at_place}
use Rattle.written_modules.proofs.NetReading.{position_is, IsKnown, named_net, wire_position, input_known, output_known}
use Rattle.written_modules.proofs.NetReading.{value_known}
use Rattle.written_modules.proofs.InstanceReading.{so_far, IsWritten, all_drive}

-- the module whose instances are read
abbrev pub joined : VModule → VModule
joined m = so_far m m.instances

-- Names and numbers.

port_name_at : (m : VModule) (p : ℕ) (port : VPort) → slice_get m.ports p ≡ Some port → port_at m p ≡ port.name
port_name_at m p port e = rw e refl

port_found : (m : VModule) → IsWritten m → (p : ℕ) → IsKnown m (net.Port p) → port_of (joined m) (port_at m p) ≡ Some p
port_found m w p (port, e) =
    ap (port_of (joined m)) (port_name_at m p port e)
    ∙ position_is port_name m.ports (m.wires ++ register_names m.notifier) p port w.declared.apart e

pub input_name : (m : VModule) → IsWritten m → (p : ℕ) → IsTrue (is_input_port m.ports p)
    → Rattle.verilog_grammar.specs.WellFormed.IsName (port_at m p)
input_name m w p h = named_net m w.declared (net.Port p) (input_known m p h)

output_name : (m : VModule) → IsWritten m → (p : ℕ) → IsTrue (is_output_port m.ports p)
    → Rattle.verilog_grammar.specs.WellFormed.IsName (port_at m p)
output_name m w p h = named_net m w.declared (net.Port p) (output_known m p h)

kept_one : (test : ℕ → Bool) (n : ℕ) → test n ≡ true → kept test (Some n) ≡ Some n
kept_one test n h = rw h refl

pub input_read : (m : VModule) → IsWritten m → (p : ℕ) {s : List (List ℕ)} → IsTrue (is_input_port m.ports p)
    → Reads (an_input (joined m)) (port_at m p ∷ s) p s
unfolding an_input
input_read m w p h =
    known_as (λ x. kept (is_input_port m.ports) (port_of (joined m) x)) (input_name m w p h)
    (ap (kept (is_input_port m.ports)) (port_found m w p (input_known m p h)) ∙ kept_one (is_input_port m.ports) p h)

output_read : (m : VModule) → IsWritten m → (p : ℕ) {s : List (List ℕ)} → IsTrue (is_output_port m.ports p)
    → Reads (an_output (joined m)) (port_at m p ∷ s) p s
unfolding an_output
output_read m w p h =
    known_as (λ x. kept (is_output_port m.ports) (port_of (joined m) x)) (output_name m w p h)
    (ap (kept (is_output_port m.ports)) (port_found m w p (output_known m p h)) ∙ kept_one (is_output_port m.ports) p h)

pub condition_known : (m : VModule) → IsWritten m → (v : ℕ) → IsTrue (is_value m m.instances v) → IsKnown m (net.Wire v)
condition_known m w v h = value_known m m.instances v (all_drive m w) h

wire_name_at : (m : VModule) (v : ℕ) (x : List ℕ) → slice_get m.wires v ≡ Some x → wire_at m v ≡ x
wire_name_at m v x e = rw e refl

wire_found : (m : VModule) → IsWritten m → (v : ℕ) → IsKnown m (net.Wire v) → position (bytes_eq (wire_at m v)) m.wires ≡ Some v
wire_found m w v (x, e) = ap (λ y. position (bytes_eq y) m.wires) (wire_name_at m v x e) ∙ (wire_position m w.declared v x e).1

pub condition_named : (m : VModule) → IsWritten m → (v : ℕ) → IsTrue (is_value m m.instances v)
    → Rattle.verilog_grammar.specs.WellFormed.IsName (wire_at m v)
condition_named m w v h = named_net m w.declared (net.Wire v) (condition_known m w v h)

pub wire_read : (m : VModule) → IsWritten m → (v : ℕ) {s : List (List ℕ)} → IsTrue (is_value m m.instances v)
    → Reads (a_condition (joined m)) (wire_at m v ∷ s) v s
unfolding a_condition
wire_read m w v h =
    known_as (λ x. kept (is_value (joined m) m.instances) (position (bytes_eq x) m.wires)) (condition_named m w v h)
    (ap (kept (is_value (joined m) m.instances)) (wire_found m w v (condition_known m w v h))
    ∙ kept_one (is_value (joined m) m.instances) v h)

pub number_read : (n : ℕ) {s : List (List ℕ)} → IsNumber n → Reads a_number (decimal n ∷ s) n s
unfolding a_number
number_read n h = token (ap (allowed_by Syntax) (number_is n h))

-- Paths.

gate_named : (m : VModule) → IsWritten m → (g : Gate) → IsTrue (is_gate m g) → IsNamedGate m g
gate_named m w gate.Always h = tt
gate_named m w (gate.If v) h = condition_named m w v h
gate_named m w gate.IfNone h = tt

pub path_named : (m : VModule) → IsWritten m → (one : VPath) → IsPath m one → HasNumbers one → IsNamedPath m one
path_named m w one h n =
    record {
      from = input_name m w one.from h.starts;
      to = output_name m w one.to h.ends;
      gate =
          gate_named m w one.gate h.gated;
      rise = n.rise;
      fall = n.fall;
    }

gate_read : (m : VModule) → IsWritten m → (g : Gate) {s : List (List ℕ)} → IsTrue (is_gate m g)
    → Reads (path_gate (joined m) (gate_start g)) (gate_more m g s) g s
unfolding path_gate if_gate ifnone_gate
gate_read m w gate.Always h = gives
gate_read m w (gate.If v) h = in_turn expected (in_turn (wire_read m w v h) (in_turn expected (in_turn expected gives)))
gate_read m w gate.IfNone h = in_turn expected gives

path_read : (m : VModule) → IsWritten m → (one : VPath) (s : List (List ℕ)) → IsPath m one → HasNumbers one
    → Reads (path (joined m) (gate_start one.gate)) (gate_more m one.gate (delay_tokens m one s)) one s
unfolding path
path_read m w one s h n =
    in_turn (gate_read m w one.gate h.gated)
    (in_turn (input_read m w one.from h.starts) (in_turn expected (in_turn (output_read m w one.to h.ends)
    (in_turn expected (in_turn expected
    (in_turn expected (in_turn (number_read one.rise n.rise) (in_turn expected (in_turn (number_read one.fall n.fall)
    (in_turn expected (in_turn expected gives)))))))))))

gate_starts : (g : Gate) → begins_by is_path_start (gate_start g) ≡ Some (Fits (gate_start g))
gate_starts gate.Always = refl
gate_starts (gate.If v) = refl
gate_starts gate.IfNone = refl

pub path_turn : (m : VModule) → IsWritten m → (paths : List VPath) → AllByRecursion (IsPath m) paths
    → AllByRecursion HasNumbers paths
    → (before : List VPath) (one : VPath) (after : List VPath) (s : List (List ℕ)) → before ++ one ∷ after ≡ paths
    → Turn (λ _. begins_by is_path_start) (next_path (joined m)) before (path_tokens m one s) (before ++ one ∷ []) s
unfolding next_path
path_turn m w paths h n before one after s same =
    turn (gate_starts one.gate)
    (in_turn (path_read m w one s (at_place (IsPath m) before one after (subst (AllByRecursion (IsPath m)) (sym same) h))
    (at_place HasNumbers before one after (subst (AllByRecursion HasNumbers) (sym same) n))) gives)
