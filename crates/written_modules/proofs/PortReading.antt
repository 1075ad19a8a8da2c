-- The header and the ports of a written module are read from their tokens.
use Rattle.std.proofs.Common.{◌≡◌, ℕ, zero, suc, ◌+◌, ◌≤◌, Bool, true, false, not, ◌||◌, cond, List, [], ◌∷◌, ◌++◌, length, map}
use Rattle.std.proofs.Common.{drop, Option, Some, None, is_some, slice_get, slice_set, refl, sym, ap, ◌∙◌, arith, subst, codes}
use Rattle.std.proofs.Common.{append_assoc}
use Rattle.std.specs.List.{AllByRecursion, list_any, position_from}
use Rattle.std.specs.Option.{option_map}
use Rattle.std.specs.Str.{bytes_eq}
use Rattle.std.proofs.lemmas.List.{map-append}
use Rattle.std.proofs.Math.Seq.{set-append_seam, drop-append_seam}
use Rattle.grammar_rules.specs.Rule.{Stops}
use Rattle.grammar_rules.specs.Rule as r
use Rattle.udp_tables.specs.declared.models.VPort.{VPort}
use Rattle.udp_tables.specs.VerilogRules.{begins, is_among, place_from}
use Rattle.verilog_grammar.specs.VerilogModules.{port_name, port_names, plain_port, input_port, next_port, more_ports, some_ports}
use Rattle.verilog_grammar.specs.VerilogModules.{header, Inputs, with_input, input_at, declared_input, declared_inputs}
use Rattle.verilog_grammar.specs.VerilogModules.{output_place, name_at, place_behind, declared_output, declared_outputs}
use Rattle.verilog_grammar.specs.WellFormed.{IsName, AreApart}
use Rattle.grammar_reader.proofs.Fronts.{each}
use Rattle.written_modules.proofs.Words.{name_is}
use Rattle.grammar_reader.proofs.Derivations.{goes_on, Reads, from_same, gives, in_turn, chosen, passed, no_turn, Turn, turn}
use Rattle.grammar_reader.proofs.Derivations.{turns, through}
use Rattle.grammar_reader.proofs.ItemPlaces.{get_at, one_longer, at_place, same_bytes, found_behind}
use Rattle.written_modules.proofs.ModuleTokens.{IsNamedPort, listed, input_tokens, output_tokens}
use Rattle.written_modules.proofs.ModuleTokens as tokens
use Rattle.written_modules.proofs.NameReading.{expected, newly_named, known_as, so_named, is_new}

-- ports of which no name stands twice, before other names
pub record ArePorts (ports : List VPort) (others : List (List ℕ)) : Type 0 where
  pub named : AllByRecursion IsNamedPort ports
  pub apart : AreApart (port_names ports ++ others)

split_names : (before : List VPort) (x : VPort) (after : List VPort) (others : List (List ℕ))
    → port_names (before ++ x ∷ after) ++ others ≡ port_names before ++ x.name ∷ (port_names after ++ others)
split_names before x after others =
    ap (λ (l : List (List ℕ)). l ++ others) (map-append port_name before (x ∷ after))
    ∙ append_assoc (port_names before) (x.name ∷ port_names after) others

-- a port's name is none of those before it
new_port : (ports : List VPort) (others : List (List ℕ)) → ArePorts ports others
    → (before : List VPort) (x : VPort) (after : List VPort) → before ++ x ∷ after ≡ ports
    → is_among (port_names before) x.name ≡ false
new_port ports others h before x after same =
    is_new (port_names before) x.name (port_names after ++ others)
    (subst AreApart (split_names before x after others)
    (subst (λ (l : List VPort). AreApart (port_names l ++ others)) (sym same) h.apart))

named_port : (ports : List VPort) → AllByRecursion IsNamedPort ports → (before : List VPort) (x : VPort) (after : List VPort)
    → before ++ x ∷ after ≡ ports → IsName x.name
named_port ports h before x after same = at_place IsNamedPort before x after (subst (AllByRecursion IsNamedPort) (sym same) h)

-- Headers.

abbrev pub plain : VPort → VPort
plain port = plain_port port.name

plain_names : (ports : List VPort) → port_names (map plain ports) ≡ port_names ports
plain_names [] = refl
plain_names (port ∷ ports) = ap (λ (l : List (List ℕ)). port.name ∷ l) (plain_names ports)

port_turn : (ports : List VPort) (others : List (List ℕ)) → ArePorts ports others
    → (before : List VPort) (x : VPort) (after : List VPort) (s : List (List ℕ)) → before ++ x ∷ after ≡ ports
    → Turn (λ _. begins (codes ",")) (λ ports _. next_port ports) (map plain before) (tokens.next_port x s)
    (map plain (before ++ x ∷ [])) s
unfolding next_port
port_turn ports others h before x after s same =
    let new : is_among (port_names (map plain before)) x.name ≡ false =
    ap (λ (l : List (List ℕ)). is_among l x.name) (plain_names before) ∙ new_port ports others h before x after same in
    subst (λ (l : List VPort). Turn (λ _. begins (codes ",")) (λ ports _. next_port ports) (map plain before)
    (tokens.next_port x s) l s) (sym (map-append plain before (x ∷ [])))
    (turn refl (in_turn (newly_named (port_names (map plain before)) (named_port ports h.named before x after same) new) gives))

pub ports_read : (ports : List VPort) (others : List (List ℕ)) (s : List (List ℕ)) → ArePorts ports others
    → Reads some_ports (listed ports (codes ")" ∷ s)) (map plain ports) (codes ")" ∷ s)
unfolding some_ports more_ports
ports_read [] others s h = passed refl gives
ports_read (port ∷ ports) others s h =
    chosen (rw (name_is port.name h.named.0) refl)
    (through (λ (l : List VPort). map plain l) tokens.next_port (port ∷ []) ports (port_turn (port ∷ ports) others h)
    (codes ")" ∷ s) refl)

pub header_read : (ports : List VPort) (others : List (List ℕ)) (s : List (List ℕ)) → ArePorts ports others
    → Reads header (codes "(" ∷ listed ports (codes ")" ∷ codes ";" ∷ s)) (map plain ports) s
unfolding header
header_read ports others s h = in_turn expected
    (in_turn (ports_read ports others (codes ";" ∷ s) h) (in_turn expected (in_turn expected gives)))

-- The place of a name.

found_from : {A : Type 0} (test : A → Bool) (i k : ℕ) (before : List A) (x : A) (after : List A) → k ≤ length before
    → list_any test before ≡ false → test x ≡ true
    → position_from test (i + k) (drop k (before ++ x ∷ after)) ≡ Some (i + length before)
found_from test i zero before x after h none here =
    let same : i + zero ≡ i = omega arith in
    ap (λ (n : ℕ). position_from test n (before ++ x ∷ after)) same ∙ found_behind test i before x after none here
found_from test i (suc k) [] x after h none here = absurd (omega arith)
found_from test i (suc k) (y ∷ before) x after h none here =
    let same : i + suc k ≡ i + 1 + k = omega arith in
    let next : i + 1 + length before ≡ i + length (y ∷ before) = omega arith in
    ap (λ (n : ℕ). position_from test n (drop k (before ++ x ∷ after))) same
    ∙ found_from test (i + 1) k before x after (omega (arith, h)) (or_no (test y) (list_any test before) none) here
    ∙ ap (λ (n : ℕ). Some n) next
  where
    or_no : (a b : Bool) → (a || b) ≡ false → b ≡ false
    or_no true b e = absurd cc
    or_no false b e = e

pub found_place : {A : Type 0} (test : A → Bool) (k : ℕ) (before : List A) (x : A) (after : List A) → k ≤ length before
    → list_any test before ≡ false → test x ≡ true
    → place_from test k (before ++ x ∷ after) ≡ Some (length before)
found_place test k before x after h none here =
    let first : k ≡ 0 + k = omega arith in
    let last : 0 + length before ≡ length before = omega arith in
    ap (λ (n : ℕ). position_from test n (drop k (before ++ x ∷ after))) first ∙ found_from test 0 k before x after h none here
    ∙ ap (λ (n : ℕ). Some n) last

pub among_ports : (x : List ℕ) (ports : List VPort)
    → list_any (λ (port : VPort). bytes_eq x port.name) ports ≡ is_among (port_names ports) x
among_ports x [] = refl
among_ports x (port ∷ ports) = ap (λ (t : Bool). bytes_eq x port.name || t) (among_ports x ports)

-- Inputs.

abbrev begun : List VPort → List VPort → ℕ → Inputs
begun before after n = record { ports = before ++ map plain after; behind = n }

-- an input's place behind the last one
input_place : (ports : List VPort) (others : List (List ℕ)) → ArePorts ports others
    → (before : List VPort) (x : VPort) (after : List VPort) (n : ℕ) → before ++ x ∷ after ≡ ports → n ≤ length before
    → x.input ≡ true → input_at (begun before (x ∷ after) n) x.name ≡ Some (begun (before ++ x ∷ []) after (length before + 1))
input_place ports others h before x after n same low input =
    let place : place_from (λ (port : VPort). bytes_eq x.name port.name) n (before ++ plain x ∷ map plain after) ≡ Some
    (length before) =
    found_place (λ (port : VPort). bytes_eq x.name port.name) n before (plain x) (map plain after) low
    (among_ports x.name before ∙ new_port ports others h before x after same) (same_bytes x.name) in
    let itself : input_port x.name ≡ x = ap (λ (t : Bool). record { name = x.name; input = t }) (sym input) in
    let moved : slice_set (before ++ plain x ∷ map plain after) (length before) (input_port x.name) ≡ (before ++ x ∷ [])
    ++ map plain after =
    set-append_seam before (plain x) (map plain after) (input_port x.name)
    ∙ ap (λ (y : VPort). before ++ y ∷ map plain after) itself ∙ sym (append_assoc before (x ∷ []) (map plain after)) in
    ap (option_map (with_input x.name (before ++ plain x ∷ map plain after))) place
    ∙ ap (λ (l : List VPort). Some (record { ports = l; behind = length before + 1 })) moved

-- the inputs are declared, up to some place
abbrev InputsRead : List VPort → List VPort → ℕ → List (List ℕ) → Type 0
InputsRead before after n s = (k : ℕ)
    × Reads (declared_inputs (begun before after n)) (each input_tokens after s) (record { ports = before ++ after; behind = k })
    s

input_by : (ports : List VPort) (others : List (List ℕ)) → ArePorts ports others
    → (before : List VPort) (x : VPort) (after : List VPort) (n : ℕ) (s : List (List ℕ)) → before ++ x ∷ after ≡ ports
    → n ≤ length before
    → ((k : ℕ) → k ≤ length (before ++ x ∷ []) → InputsRead (before ++ x ∷ []) after k s) → (t : Bool) → x.input ≡ t
    → InputsRead before (x ∷ after) n s
unfolding declared_inputs declared_input
input_by ports others h before x after n s same low rest true e =
    let next = rest (length before + 1) (subst (λ k. k ≤ length (before ++ x ∷ [])) (sym (one_longer before x)) (omega arith)) in
    let this : Turn (λ _. begins (codes "input")) (λ found _. declared_input found) (begun before (x ∷ after) n)
    (codes "input" ∷ x.name ∷ codes ";" ∷ each input_tokens after s) (begun (before ++ x ∷ []) after (length before + 1))
    (each input_tokens after s) =
    turn refl (in_turn (known_as (input_at (begun before (x ∷ after) n)) (named_port ports h.named before x after same)
    (input_place ports others h before x after n same low e)) (in_turn expected gives)) in (
      next.0,
      from_same (ap (λ (t : Bool). tokens.declared_where t (codes "input") x.name (each input_tokens after s)) e)
          (subst (λ (l : List VPort). Reads (declared_inputs (begun before (x ∷ after) n))
          (codes "input" ∷ x.name ∷ codes ";" ∷ each input_tokens after s) (record { ports = l; behind = next.0 }) s)
          (append_assoc before (x ∷ []) after) (turns this next.1)),
    )
input_by ports others h before x after n s same low rest false e =
    let next = rest n (omega (arith, low, one_longer before x)) in
    let itself : plain x ≡ x = ap (λ (t : Bool). record { name = x.name; input = t }) (sym e) in
    let start : (before ++ x ∷ []) ++ map plain after ≡ before ++ plain x ∷ map plain after =
    append_assoc before (x ∷ []) (map plain after) ∙ ap (λ (y : VPort). before ++ y ∷ map plain after) (sym itself) in (
      next.0,
      from_same (ap (λ (t : Bool). tokens.declared_where t (codes "input") x.name (each input_tokens after s)) e)
          (subst (λ (l : List VPort). Reads (declared_inputs (record { ports = l; behind = n })) (each input_tokens after s)
          (record { ports = before ++ x ∷ after; behind = next.0 }) s) start
          (subst (λ (l : List VPort). Reads (declared_inputs (begun (before ++ x ∷ []) after n)) (each input_tokens after s)
          (record { ports = l; behind = next.0 }) s) (append_assoc before (x ∷ []) after) next.1)),
    )

inputs_from : (ports : List VPort) (others : List (List ℕ)) → ArePorts ports others
    → (before after : List VPort) (n : ℕ) (s : List (List ℕ)) → before ++ after ≡ ports → n ≤ length before
    → Stops (begins (codes "input")) s → InputsRead before after n s
unfolding declared_inputs
inputs_from ports others h before [] n s same low stop = (n, no_turn stop)
inputs_from ports others h before (x ∷ after) n s same low stop =
    input_by ports others h before x after n s same low
    (λ k l. inputs_from ports others h (before ++ x ∷ []) after k s (append_assoc before (x ∷ []) after ∙ same) l stop) x.input
    refl

pub inputs_read : (ports : List VPort) (others : List (List ℕ)) (s : List (List ℕ)) → ArePorts ports others
    → Stops (begins (codes "input")) s
    → (k : ℕ) × Reads (declared_inputs (record { ports = map plain ports; behind = 0 })) (each input_tokens ports s)
    (record { ports = ports; behind = k }) s
inputs_read ports others s h stop = inputs_from ports others h [] ports 0 s refl (omega arith) stop

-- Outputs.

abbrev is_output : VPort → Bool
is_output port = not port.input

drop_one : (before : List VPort) (x : VPort) (after : List VPort) → drop (length before + 1) (before ++ x ∷ after) ≡ after
drop_one before x after =
    ap (λ (n : ℕ). drop n (before ++ x ∷ after)) (one_longer before x)
    ∙ ap (drop (length (before ++ x ∷ []))) (sym (append_assoc before (x ∷ []) after)) ∙ drop-append_seam (before ++ x ∷ []) after

-- the outputs are declared, up to some place behind which there is none
abbrev OutputsRead : List VPort → List VPort → ℕ → List (List ℕ) → Type 0
OutputsRead ports after n s = (k : ℕ)
    × Reads (r.Many (λ _. begins (codes "output")) (λ from _. declared_output ports from) n) (each output_tokens after s) k s
    × (output_place ports k ≡ None)

output_by : (ports before : List VPort) (x : VPort) (after : List VPort) (n : ℕ) (s : List (List ℕ)) → before ++ x ∷ after ≡ ports
    → IsName x.name
    → output_place ports n ≡ position_from is_output (length before) (x ∷ after)
    → ((k : ℕ) → output_place ports k ≡ position_from is_output (length (before ++ x ∷ [])) after → OutputsRead ports after k s)
    → (t : Bool) → x.input ≡ t → OutputsRead ports (x ∷ after) n s
unfolding declared_output
output_by ports before x after n s same name place rest true e =
    let here : output_place ports n ≡ position_from is_output (length (before ++ x ∷ [])) after =
    place ∙ ap (λ (t : Bool). cond (not t) (Some (length before)) (position_from is_output (length before + 1) after)) e
    ∙ ap (λ (k : ℕ). position_from is_output k after) (one_longer before x) in
    let next = rest n here in (
      next.0,
      from_same (ap (λ (t : Bool). tokens.declared_where (not t) (codes "output") x.name (each output_tokens after s)) e)
          next.1,
      next.2,
    )
output_by ports before x after n s same name place rest false e =
    let here : output_place ports n ≡ Some (length before) =
    place ∙ ap (λ (t : Bool). cond (not t) (Some (length before)) (position_from is_output (length before + 1) after)) e in
    let behind : output_place ports (length before + 1) ≡ position_from is_output (length (before ++ x ∷ [])) after =
    ap (λ (l : List VPort). position_from is_output (length before + 1) (drop (length before + 1) l)) (sym same)
    ∙ ap (position_from is_output (length before + 1)) (drop_one before x after)
    ∙ ap (λ (k : ℕ). position_from is_output k after) (one_longer before x) in
    let next = rest (length before + 1) behind in
    let its_name : name_at ports (output_place ports n) ≡ Some x.name =
    ap (name_at ports) here ∙ ap (λ (l : List VPort). option_map port_name (slice_get l (length before))) (sym same)
    ∙ ap (option_map port_name) (get_at before x after) in
    let this : Reads (declared_output ports n) (x.name ∷ codes ";" ∷ each output_tokens after s) (length before + 1)
    (each output_tokens after s) =
    subst (λ (k : ℕ). Reads (declared_output ports n) (x.name ∷ codes ";" ∷ each output_tokens after s) k
    (each output_tokens after s)) (ap (place_behind n) here)
    (in_turn (so_named (name_at ports (output_place ports n)) name its_name) (in_turn expected gives)) in (
      next.0,
      from_same (ap (λ (t : Bool). tokens.declared_where (not t) (codes "output") x.name (each output_tokens after s)) e)
          (turns (turn refl this) next.1),
      next.2,
    )

outputs_from : (ports : List VPort) → AllByRecursion IsNamedPort ports → (before after : List VPort) (n : ℕ) (s : List (List ℕ))
    → before ++ after ≡ ports
    → output_place ports n ≡ position_from is_output (length before) after → Stops (begins (codes "output")) s
    → OutputsRead ports after n s
outputs_from ports h before [] n s same place stop = (n, no_turn stop, place)
outputs_from ports h before (x ∷ after) n s same place stop =
    output_by ports before x after n s same (named_port ports h before x after same) place
    (λ k e. outputs_from ports h (before ++ x ∷ []) after k s (append_assoc before (x ∷ []) after ∙ same) e stop) x.input refl

pub outputs_read : (ports : List VPort) (s : List (List ℕ)) → AllByRecursion IsNamedPort ports → Stops (begins (codes "output")) s
    → Reads (declared_outputs ports) (each output_tokens ports s) tt s
unfolding declared_outputs
outputs_read ports s h stop =
    let all = outputs_from ports h [] ports 0 s refl refl stop in
    in_turn all.1 (goes_on (not (is_some (output_place ports all.0))) s (ap (λ (o : Option ℕ). not (is_some o)) all.2))
