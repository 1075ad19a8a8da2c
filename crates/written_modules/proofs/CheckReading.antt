-- The timing checks of a written module are read from their tokens.
use Rattle.std.proofs.Common.{◌≡◌, ℕ, true, ◌&&◌, nat_eq, IsTrue, List, [], ◌∷◌, ◌++◌, Option, Some, None, is_some, slice_get}
use Rattle.std.proofs.Common.{refl, sym, ap, ◌∙◌, subst, codes, decimal}
use Rattle.std.specs.List.{AllByRecursion}
use Rattle.std.specs.Option.{option_map}
use Rattle.std.proofs.lemmas.Bool.{and_parts, eqb-true, eq-eqb as equal_numbers}
use Rattle.verilog_tokens.specs.Words.{is_verilog_word, verilog_words}
use Rattle.grammar_rules.specs.Rule.{Fits}
use Rattle.cell_machine.specs.declared.checks.CheckKind.{CheckKind}
use Rattle.cell_machine.specs.declared.checks.CheckKind.TheVariants as check_kind
use Rattle.cell_machine.specs.declared.checks.Edge.{Edge}
use Rattle.cell_machine.specs.declared.checks.Edge.TheVariants as edge
use Rattle.cell_machine.specs.declared.checks.Event.{Event}
use Rattle.cell_machine.specs.CellRules.{is_any_edge, are_opposite}
use Rattle.verilog_grammar.specs.specify_blocks.declared.model.VNet.TheVariants as net
use Rattle.udp_tables.specs.declared.timing_checks.TimingCheck.{TimingCheck}
use Rattle.verilog_grammar.specs.specify_blocks.declared.model.VModule.{VModule}
use Rattle.udp_tables.specs.Ports.{is_input_port}
use Rattle.verilog_grammar.specs.specify_blocks.Sound.{has_written_events, is_enabling, IsCheck}
use Rattle.verilog_grammar.specs.WellFormed.{IsName, IsNumber}
use Rattle.verilog_grammar.specs.VerilogModules.{port_name}
use Rattle.verilog_grammar.specs.VerilogBlocks.{edge_of, any_edge, an_event, an_edge_event, condition_name, condition, check_end}
use Rattle.verilog_grammar.specs.VerilogBlocks.{ordered_check, turned_check, opposite, width_check, same_condition, equal_to}
use Rattle.verilog_grammar.specs.VerilogBlocks.{same_number, second_period, period_check, check_of, check_of_kind, check}
use Rattle.verilog_grammar.specs.VerilogBlocks.{next_check}
use Rattle.grammar_reader.specs.Words.{begins_as}
use Rattle.verilog_writer.specs.Nets.{port_at, wire_at, notifier_in}
use Rattle.written_modules.proofs.Words.{unlike_word}
use Rattle.written_modules.proofs.TimingTokens.{IsNamedCondition, IsNamedCheck, edge_tokens, event_tokens, condition_tokens}
use Rattle.written_modules.proofs.TimingTokens.{end_tokens, ordered_tokens, turned_tokens, width_tokens, period_tokens}
use Rattle.written_modules.proofs.TimingTokens.{check_word, check_more, check_tokens}
use Rattle.grammar_reader.proofs.Bytes.{number_is}
use Rattle.grammar_reader.proofs.Derivations.{Reads, to_same, gives, token, in_turn, chosen, passed, Turn, turn}
use Rattle.written_modules.proofs.NameReading.{expected, so_named}
use Rattle.grammar_reader.proofs.ItemPlaces.{at_place}
use Rattle.written_modules.proofs.NetReading.{IsKnown, named_net, input_known, register_known}
use Rattle.written_modules.proofs.InstanceReading.{IsWritten}
use Rattle.written_modules.proofs.PathReading.{joined, input_name, input_read, condition_known, condition_named, wire_read}
use Rattle.written_modules.proofs.PathReading.{number_read}

-- Events.

rise_word : is_verilog_word (codes "posedge") ≡ true
unfolding is_verilog_word verilog_words
rise_word = refl

fall_word : is_verilog_word (codes "negedge") ≡ true
unfolding is_verilog_word verilog_words
fall_word = refl

no_edge : (x : List ℕ) → IsName x → begins_as edge_of x ≡ None
no_edge x n = rw (unlike_word x (codes "posedge") rise_word n, unlike_word x (codes "negedge") fall_word n) refl

edge_read : (e : Edge) (x : List ℕ) (s : List (List ℕ)) → IsName x → Reads any_edge (edge_tokens e (x ∷ s)) e (x ∷ s)
unfolding any_edge
edge_read edge.Any x s n = passed (no_edge x n) gives
edge_read edge.Rise x s n = chosen refl gives
edge_read edge.Fall x s n = chosen refl gives

event_read : (m : VModule) → IsWritten m → (e : Event) {s : List (List ℕ)} → IsTrue (is_input_port m.ports e.pin)
    → Reads (an_event (joined m)) (event_tokens m e s) e s
unfolding an_event
event_read m w e {s} h = in_turn (edge_read e.edge (port_at m e.pin) s (input_name m w e.pin h))
    (in_turn (input_read m w e.pin h) gives)

edge_event_read : (m : VModule) → IsWritten m → (e : Edge) (p : ℕ) {s : List (List ℕ)} → (e ≡ edge.Any → ⊥)
    → IsTrue (is_input_port m.ports p)
    → Reads (an_edge_event (joined m)) (edge_tokens e (port_at m p ∷ s)) (record { pin = p; edge = e }) s
unfolding an_edge_event
edge_event_read m w edge.Any p some h = absurd (some refl)
edge_event_read m w edge.Rise p some h = in_turn (token refl) (in_turn (input_read m w p h) gives)
edge_event_read m w edge.Fall p some h = in_turn (token refl) (in_turn (input_read m w p h) gives)

-- Conditions.

condition_name_is : (m : VModule) → IsWritten m → (c : Option ℕ) → IsTrue (is_enabling m c) → IsNamedCondition m c
condition_name_is m w None h = tt
condition_name_is m w (Some v) h = condition_named m w v h

condition_read : (m : VModule) → IsWritten m → (c : Option ℕ) {s : List (List ℕ)} → IsTrue (is_enabling m c)
    → Reads (condition (joined m)) (condition_tokens m c (codes "," ∷ s)) c (codes "," ∷ s)
unfolding condition condition_name
condition_read m w None h = passed refl gives
condition_read m w (Some v) h = chosen refl (in_turn (wire_read m w v h) gives)

its_wire : (m : VModule) (v : ℕ) → IsKnown m (net.Wire v) → slice_get m.wires v ≡ Some (wire_at m v)
its_wire m v (x, e) = rw e refl

same_condition_read : (m : VModule) → IsWritten m → (c : Option ℕ) {s : List (List ℕ)} → IsTrue (is_enabling m c)
    → Reads (same_condition (joined m) c) (condition_tokens m c s) tt s
unfolding same_condition
same_condition_read m w None h = gives
same_condition_read m w (Some v) h =
    in_turn expected (so_named (slice_get m.wires v) (condition_named m w v h) (its_wire m v (condition_known m w v h)))

-- Ends.

its_register : (m : VModule) → IsKnown m net.Notifier → m.notifier ≡ Some (notifier_in m)
its_register m (x, e) = rw e refl

register_name : (m : VModule) → IsWritten m → IsTrue (is_some m.notifier) → IsName (notifier_in m)
register_name m w h = named_net m w.declared net.Notifier (register_known m h)

end_read : (m : VModule) → IsWritten m → {s : List (List ℕ)} → IsTrue (is_some m.notifier)
    → Reads (check_end (joined m)) (end_tokens m s) tt s
unfolding check_end
end_read m w h = in_turn expected
    (in_turn (so_named m.notifier (register_name m w h) (its_register m (register_known m h))) (in_turn expected expected))

-- Checks.

of_kind : (k : TimingCheck) (kind : CheckKind) → k.kind ≡ kind → record k { kind = kind } ≡ k
of_kind k kind e = ap (λ (c : CheckKind). record k { kind = c }) (sym e)

ordered_read : (m : VModule) → IsWritten m → (k : TimingCheck) (kind : CheckKind) (s : List (List ℕ)) → k.kind ≡ kind
    → IsCheck m k → IsNumber k.limit → Reads (ordered_check kind (joined m)) (ordered_tokens m k s) k s
unfolding ordered_check
ordered_read m w k kind s e h n =
    to_same (of_kind k kind e) (in_turn (event_read m w k.first h.first)
    (in_turn expected (in_turn (event_read m w k.second h.second) (in_turn (condition_read m w k.condition h.enabled)
    (in_turn expected (in_turn (number_read k.limit n) (in_turn (end_read m w h.notified) gives)))))))

turned_read : (m : VModule) → IsWritten m → (k : TimingCheck) (kind : CheckKind) (s : List (List ℕ)) → k.kind ≡ kind → IsCheck m k
    → IsNumber k.limit → Reads (turned_check kind (joined m)) (turned_tokens m k s) k s
unfolding turned_check
turned_read m w k kind s e h n =
    to_same (of_kind k kind e) (in_turn (event_read m w k.second h.second)
    (in_turn (condition_read m w k.condition h.enabled) (in_turn expected (in_turn (event_read m w k.first h.first)
    (in_turn expected (in_turn (number_read k.limit n) (in_turn (end_read m w h.notified) gives)))))))

opposites : (a b : Edge) → are_opposite a b ≡ true → (a ≡ edge.Any → ⊥) × (opposite a ≡ b)
opposites edge.Any b h = absurd cc
opposites edge.Rise edge.Any h = absurd cc
opposites edge.Rise edge.Rise h = absurd cc
opposites edge.Rise edge.Fall h = (λ e. absurd cc, refl)
opposites edge.Fall edge.Any h = absurd cc
opposites edge.Fall edge.Rise h = (λ e. absurd cc, refl)
opposites edge.Fall edge.Fall h = absurd cc

same_event : (e : Event) (p : ℕ) (g : Edge) → p ≡ e.pin → g ≡ e.edge → record { pin = p; edge = g } ≡ e
same_event e p g a b = ap (λ (q : ℕ). record { pin = q; edge = g }) a ∙ ap (λ (f : Edge). record { pin = e.pin; edge = f }) b

with_second : (k : TimingCheck) (kind : CheckKind) (second : Event) → k.kind ≡ kind → second ≡ k.second
    → record k { kind = kind; second = second } ≡ k
with_second k kind second e f = ap (λ (v : Event). record k { kind = kind; second = v }) f ∙ of_kind k kind e

width_read : (m : VModule) → IsWritten m → (k : TimingCheck) (s : List (List ℕ)) → k.kind ≡ check_kind.Width
    → IsTrue (has_written_events k check_kind.Width) → IsCheck m k → IsNumber k.limit
    → Reads (width_check (joined m)) (width_tokens m k s) k s
unfolding width_check
width_read m w k s e v h n =
    let parts = and_parts (nat_eq k.first.pin k.second.pin) (are_opposite k.first.edge k.second.edge) v in
    let turn = opposites k.first.edge k.second.edge parts.1 in
    to_same (with_second k check_kind.Width (record { pin = k.first.pin; edge = opposite k.first.edge }) e
    (same_event k.second k.first.pin (opposite k.first.edge) (eqb-true k.first.pin k.second.pin parts.0) turn.1))
    (in_turn (edge_event_read m w k.first.edge k.first.pin turn.0 h.first)
    (in_turn (condition_read m w k.condition h.enabled) (in_turn expected (in_turn (number_read k.limit n)
    (in_turn expected (in_turn expected (in_turn (end_read m w h.notified) gives)))))))

any_edge_is : (e : Edge) → is_any_edge e ≡ true → edge.Any ≡ e
any_edge_is edge.Any h = refl
any_edge_is edge.Rise h = absurd cc
any_edge_is edge.Fall h = absurd cc

its_port : (m : VModule) (p : ℕ) → IsKnown m (net.Port p) → option_map port_name (slice_get m.ports p) ≡ Some (port_at m p)
its_port m p (port, e) = rw e refl

same_number_read : (n : ℕ) {s : List (List ℕ)} → IsNumber n → Reads (same_number n) (decimal n ∷ s) tt s
unfolding same_number
same_number_read n h = token (ap (equal_to n) (number_is n h) ∙ rw (equal_numbers n n refl) refl)

second_read : (m : VModule) → IsWritten m → (k : TimingCheck) (s : List (List ℕ)) → IsCheck m k → IsNumber k.limit
    → Reads (second_period (joined m) k.first.pin k.condition k.limit)
    (codes "$period" ∷ codes "(" ∷ period_tokens (codes "negedge") m k s) tt s
unfolding second_period
second_read m w k s h n =
    in_turn expected (in_turn expected (in_turn expected
    (in_turn (so_named (option_map port_name (slice_get m.ports k.first.pin)) (input_name m w k.first.pin h.first)
    (its_port m k.first.pin (input_known m k.first.pin h.first)))
    (in_turn (same_condition_read m w k.condition h.enabled)
    (in_turn expected (in_turn (same_number_read k.limit n) (end_read m w h.notified)))))))

of_period : (k : TimingCheck) → k.kind ≡ check_kind.Period → IsTrue (has_written_events k check_kind.Period)
    → record {
      kind = check_kind.Period;
      first = record { pin = k.first.pin; edge = edge.Any };
      second =
          record { pin = k.first.pin; edge = edge.Any };
      limit = k.limit;
      condition = k.condition;
    } ≡ k
of_period k e v =
    let parts = and_parts (nat_eq k.first.pin k.second.pin) (is_any_edge k.first.edge && is_any_edge k.second.edge) v in
    let edges = and_parts (is_any_edge k.first.edge) (is_any_edge k.second.edge) parts.1 in
    let first = same_event k.first k.first.pin edge.Any refl (any_edge_is k.first.edge edges.0) in
    let second = same_event k.second k.first.pin edge.Any (eqb-true k.first.pin k.second.pin parts.0)
    (any_edge_is k.second.edge edges.1) in
    ap (λ (v : Event). record {
      kind = check_kind.Period;
      first = v;
      second =
          record { pin = k.first.pin; edge = edge.Any };
      limit = k.limit;
      condition = k.condition;
    }) first
    ∙ with_second k check_kind.Period (record { pin = k.first.pin; edge = edge.Any }) e second

period_read : (m : VModule) → IsWritten m → (k : TimingCheck) (s : List (List ℕ)) → k.kind ≡ check_kind.Period
    → IsTrue (has_written_events k check_kind.Period) → IsCheck m k → IsNumber k.limit
    → Reads (period_check (joined m)) (check_more m k check_kind.Period s) k s
unfolding period_check
period_read m w k s e v h n =
    to_same (of_period k e v)
    (in_turn expected (in_turn (input_read m w k.first.pin h.first)
    (in_turn (condition_read m w k.condition h.enabled) (in_turn expected (in_turn (number_read k.limit n)
    (in_turn (end_read m w h.notified) (in_turn (second_read m w k s h n) gives)))))))

kind_read : (m : VModule) → IsWritten m → (k : TimingCheck) (kind : CheckKind) (s : List (List ℕ)) → k.kind ≡ kind
    → IsTrue (has_written_events k kind) → IsCheck m k → IsNumber k.limit
    → Reads (check_of_kind (joined m) kind) (check_more m k kind s) k s
unfolding check_of_kind ordered_check turned_check width_check period_check
kind_read m w k check_kind.Setup s e v h n = ordered_read m w k check_kind.Setup s e h n
kind_read m w k check_kind.Hold s e v h n = ordered_read m w k check_kind.Hold s e h n
kind_read m w k check_kind.Recovery s e v h n = ordered_read m w k check_kind.Recovery s e h n
kind_read m w k check_kind.Removal s e v h n = turned_read m w k check_kind.Removal s e h n
kind_read m w k check_kind.Width s e v h n = width_read m w k s e v h n
kind_read m w k check_kind.Period s e v h n = period_read m w k s e v h n

word_is : (kind : CheckKind) → begins_as check_of (check_word kind) ≡ Some (Fits kind)
word_is check_kind.Setup = refl
word_is _ = refl

abbrev pub HasNumber : TimingCheck → Type 0
HasNumber k = IsNumber k.limit

pub check_named : (m : VModule) → IsWritten m → (k : TimingCheck) → IsCheck m k → HasNumber k → IsNamedCheck m k
check_named m w k h n = record {
  first = input_name m w k.first.pin h.first;
  second = input_name m w k.second.pin h.second;
  condition = condition_name_is m w k.condition h.enabled;
  notifier = register_name m w h.notified;
  limit = n;
}

pub check_turn : (m : VModule) → IsWritten m → (checks : List TimingCheck) → AllByRecursion (IsCheck m) checks
    → AllByRecursion HasNumber checks
    → (before : List TimingCheck) (k : TimingCheck) (after : List TimingCheck) (s : List (List ℕ)) → before ++ k ∷ after ≡ checks
    → Turn (λ _. begins_as check_of) (next_check (joined m)) before (check_tokens m k s) (before ++ k ∷ []) s
unfolding next_check check
check_turn m w checks h n before k after s same =
    let one : IsCheck m k = at_place (IsCheck m) before k after (subst (AllByRecursion (IsCheck m)) (sym same) h) in
    let limit : HasNumber k = at_place HasNumber before k after (subst (AllByRecursion HasNumber) (sym same) n) in
    turn (word_is k.kind) (in_turn (in_turn expected (kind_read m w k k.kind s refl one.written one limit)) gives)
