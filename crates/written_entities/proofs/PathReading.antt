-- The paths of outputs in a written entity: their tokens and their reading.
use Rattle.std.proofs.Common.{◌≡◌, ℕ, ◌+◌, ◌-◌, ◌<◌, ◌≤◌, ◌^◌, Bool, true, false, nat_lt, IsTrue, List, [], ◌∷◌, ◌++◌, length}
use Rattle.std.proofs.Common.{flat_map, All, refl, sym, ap, ◌∙◌, arith, subst, codes, decimal, append_assoc}
use Rattle.vital_models.specs.declared.model.HGate.{HGate}
use Rattle.vital_models.specs.declared.model.HGate.TheVariants as gate
use Rattle.vital_models.specs.declared.model.HPath.{HPath}
use Rattle.vital_models.specs.declared.model.VEntity.{VEntity}
use Rattle.vital_models.specs.Sound.{IsPath}
use Rattle.vhdl_tokens.specs.Words.{is_reserved, is_used, vhdl_words, used_words}
use Rattle.vhdl_grammar.specs.VhdlRules.{this_number}
use Rattle.vhdl_grammar.specs.VhdlOutputs.{next_zero, all_zero, not_zero, equals_zero, gate_of_conditions, always, gate_of}
use Rattle.vhdl_grammar.specs.VhdlOutputs.{delays}
use Rattle.vhdl_grammar.specs.VhdlOutputs.{next_path, paths}
use Rattle.vhdl_grammar.specs.WellFormed.{IsNumber, IsWrittenPath, IsWellFormedEntity, names_condition, conditions_of_gate}
use Rattle.vhdl_grammar.specs.WellFormed.{conditions_of_path}
use Rattle.vhdl_writer.specs.Joined.{numbered_texts, apart_text}
use Rattle.vhdl_writer.specs.Names.{port_at, condition_text}
use Rattle.vhdl_writer.specs.Outputs.{not_zero_text, zero_text, all_zero_text, gate_text, path_text}
use Rattle.grammar_reader.proofs.Fronts.{Front, Anything}
use Rattle.grammar_reader.proofs.Derivations.{Reads, from_same, to_same, gives, in_turn, chosen, passed, no_turn, turn, turns}
use Rattle.grammar_reader.proofs.Spelling.{literal, joins, behind, anywhere}
use Rattle.written_entities.proofs.Spelling.{Spells}
use Rattle.written_entities.proofs.Words.{Ends, name, number, true_word}
use Rattle.written_entities.proofs.NameReading.{expected, two_expected, three_expected, time_read, this_number_read}
use Rattle.written_entities.proofs.Counting.{counted, apart_front, apart_spelled, over}
use Rattle.written_entities.proofs.Elements.{comma, closed}
use Rattle.written_entities.proofs.Parts.{fact_at, place_below}
use Rattle.written_entities.proofs.PortLookUps.{input_named, input_read}
use Rattle.written_entities.proofs.LookUpOrder.{seen_after, behind_look_ups, seen_behind, seen_with_item, looks_at}
use Rattle.written_entities.proofs.ConditionReading.{scope, uses_of, Looks, condition_front, condition_read, condition_spelled}
use Rattle.written_entities.proofs.ConditionReading.{looks_below}

-- Tokens.

abbrev zero_front : VEntity → ℕ → ℕ → Front
zero_front e n i s = codes "VitalTruthTable" ∷ condition_front e i (codes "=" ∷ codes "'0'" ∷ s)

abbrev gate_front : VEntity → HGate → Front
gate_front e gate.Always s = codes "true" ∷ s
gate_front e (gate.NotZero i) s = codes "VitalTruthTable" ∷ condition_front e i (codes "/=" ∷ codes "'0'" ∷ s)
gate_front e (gate.AllZero is) s = apart_front (λ q. codes "and" ∷ q) (zero_front e) is s

abbrev pub path_front : VEntity → ℕ → HPath → Front
path_front e n path s =
    decimal (n - 1) ∷ codes "=>" ∷ codes
    "(" ∷ port_at e path.from ∷ codes "'" ∷ codes "last_event" ∷ codes "," ∷ codes
    "(" ∷ decimal path.rise ∷ codes "ps" ∷ codes "," ∷ decimal path.fall ∷ codes "ps"
    ∷ codes ")" ∷ codes "," ∷ gate_front e path.gate (codes ")" ∷ s)

unequal_zero : {t : Bool} → Spells Anything t (codes " /= '0'") (λ s. codes "/=" ∷ codes "'0'" ∷ s) false
unequal_zero = literal (λ r. refl) refl

is_zero : {t : Bool} → Spells Anything t (codes " = '0'") (λ s. codes "=" ∷ codes "'0'" ∷ s) false
is_zero = literal (λ r. refl) refl

and_word : {t : Bool} → Spells Anything t (codes " and ") (λ s. codes "and" ∷ s) false
unfolding is_reserved is_used vhdl_words used_words
and_word = literal (λ r. refl) refl

pub path_start : {t : Bool} → Spells Anything t (codes " => (") (λ s. codes "=>" ∷ codes "(" ∷ s) false
path_start = literal (λ r. refl) refl

pub event_word : Spells Anything true
    (codes "'last_event, (") (λ s. codes "'" ∷ codes "last_event" ∷ codes "," ∷ codes "(" ∷ s) false
event_word = literal (λ r. refl) refl

pub rise_end : {t : Bool} → Spells Anything t (codes " ps, ") (λ s. codes "ps" ∷ codes "," ∷ s) false
rise_end = literal (λ r. refl) refl

fall_end : {t : Bool} → Spells Anything t (codes " ps), ") (λ s. codes "ps" ∷ codes ")" ∷ codes "," ∷ s) false
fall_end = literal (λ r. refl) refl

-- Gates.

all_below : (e : VEntity) (seen : ℕ) (is others : List ℕ) → Looks e seen (is ++ others)
    → (before : List ℕ) (i : ℕ) (after : List ℕ) → before ++ i ∷ after ≡ is → i < length e.conditions
all_below e seen is others h before i after same =
    let split : is ++ others ≡ before ++ (i ∷ (after ++ others)) = ap (λ (l : List ℕ). l ++ others) (sym same)
    ∙ append_assoc before (i ∷ after) others in
    looks_below e (seen_after seen before) i (after ++ others)
    (behind_look_ups (length e.conditions) seen before (i ∷ (after ++ others)) (subst (Looks e seen) split h))

zeros_spelled : (e : VEntity) → IsWellFormedEntity e → (is : List ℕ) → nat_lt 0 (length is) ≡ true
    → ((before : List ℕ) (i : ℕ) (after : List ℕ) → before ++ i ∷ after ≡ is → i < length e.conditions)
    → Spells Anything false (all_zero_text e is) (apart_front (λ q. codes "and" ∷ q) (zero_front e) is) false
unfolding all_zero_text
zeros_spelled e w [] some h = absurd (cc some)
zeros_spelled e w (i ∷ is) some h =
    apart_spelled (codes " and ") (λ q. codes "and" ∷ q) (zero_text e) (λ n j. condition_text e j ++ codes " = '0'")
    (zero_front e) (λ n j. refl) and_word (λ r. tt) i is
    (λ before j after same. behind (condition_spelled e w j (h before j after same)) is_zero)

gate_spelled : (e : VEntity) → IsWellFormedEntity e → (seen : ℕ) (g : HGate) (others : List ℕ)
    → Looks e seen (conditions_of_gate g ++ others) → IsTrue (names_condition g)
    → Spells Ends false (gate_text e g) (gate_front e g) false
unfolding not_zero_text
gate_spelled e w seen gate.Always others h some = true_word
gate_spelled e w seen (gate.NotZero i) others h some =
    anywhere (behind (condition_spelled e w i (looks_below e seen i others h)) unequal_zero)
gate_spelled e w seen (gate.AllZero is) others h some = anywhere (zeros_spelled e w is some (all_below e seen is others h))

zero_step : (e : VEntity) → IsWellFormedEntity e → (seen : ℕ) (is others : List ℕ) → Looks e seen (is ++ others)
    → (before : List ℕ) (i : ℕ) (after : List ℕ) (q : List (List ℕ)) → before ++ i ∷ after ≡ is
    → Reads (next_zero (scope e) (before, uses_of e (seen_after seen before))) (zero_front e 0 i q)
    (before ++ i ∷ [], uses_of e (seen_after seen (before ++ i ∷ []))) q
unfolding next_zero
zero_step e w seen is others h before i after q same =
    let split : is ++ others ≡ before ++ (i ∷ (after ++ others)) = ap (λ (l : List ℕ). l ++ others) (sym same)
    ∙ append_assoc before (i ∷ after) others in
    let looks : Looks e (seen_after seen before) (i ∷ (after ++ others)) =
    behind_look_ups (length e.conditions) seen before (i ∷ (after ++ others)) (subst (Looks e seen) split h) in
    in_turn expected (in_turn (condition_read e w (seen_after seen before) i (after ++ others) looks) (in_turn two_expected
    (to_same (ap (λ (n : ℕ). (before ++ i ∷ [], uses_of e n)) (sym (seen_behind seen before (i ∷ [])))) gives)))

zeros_read : (e : VEntity) → IsWellFormedEntity e → (seen i : ℕ) (is others : List ℕ) (s : List (List ℕ))
    → Looks e seen (i ∷ (is ++ others))
    → Reads (gate_of (scope e) (uses_of e seen)) (apart_front (λ q. codes "and" ∷ q) (zero_front e) (i ∷ is) (codes ")" ∷ s))
    (gate.AllZero (i ∷ is), uses_of e (seen_after seen (i ∷ is))) (codes ")" ∷ s)
unfolding gate_of gate_of_conditions equals_zero all_zero
zeros_read e w seen i is others s h =
    chosen refl (in_turn (condition_read e w seen i (is ++ others) h) (passed refl (in_turn expected (in_turn expected
    (in_turn (over (λ (l : List ℕ). (l, uses_of e (seen_after seen l))) (λ n j q. codes "and" ∷ zero_front e n j q) (i ∷ []) is
    (λ before j after q same rest. turns (turn refl (zero_step e w seen (i ∷ is) others h before j after q same)) rest)
    (codes ")" ∷ s) (no_turn refl)) gives)))))

gate_read : (e : VEntity) → IsWellFormedEntity e → (seen : ℕ) (g : HGate) (others : List ℕ) (s : List (List ℕ))
    → Looks e seen (conditions_of_gate g ++ others) → IsTrue (names_condition g)
    → Reads (gate_of (scope e) (uses_of e seen)) (gate_front e g (codes ")" ∷ s))
    (g, uses_of e (seen_after seen (conditions_of_gate g))) (codes ")" ∷ s)
unfolding gate_of gate_of_conditions not_zero always
gate_read e w seen gate.Always others s h some = passed refl (in_turn expected gives)
gate_read e w seen (gate.NotZero i) others s h some =
    chosen refl (in_turn (condition_read e w seen i others h) (chosen refl (in_turn expected gives)))
gate_read e w seen (gate.AllZero []) others s h some = absurd (cc some)
gate_read e w seen (gate.AllZero (i ∷ is)) others s h some = zeros_read e w seen i is others s h

-- Paths.

-- what holds of an output's paths, of which the look-ups are in order
pub record ArePaths (e : VEntity) (seen : ℕ) (all : List HPath) (others : List ℕ) : Type 0 where
  pub formed : IsWellFormedEntity e
  pub sound : All (IsPath e) all
  pub written : All IsWrittenPath all
  pub few : length all ≤ 10 ^ 15
  pub looks : Looks e seen (flat_map conditions_of_path all ++ others)

path_looks : (e : VEntity) (seen : ℕ) (all : List HPath) (others : List ℕ) → ArePaths e seen all others
    → (before : List HPath) (path : HPath) (after : List HPath) → before ++ path ∷ after ≡ all
    → Looks e (seen_after seen (flat_map conditions_of_path before))
    (conditions_of_gate path.gate ++ (flat_map conditions_of_path after ++ others))
path_looks e seen all others h before path after same =
    looks_at conditions_of_path (length e.conditions) seen before path after others
    (subst (λ (l : List HPath). Looks e seen (flat_map conditions_of_path l ++ others)) (sym same) h.looks)

pub index_fits : {A : Type 0} (before : List A) (x : A) (after all : List A) → before ++ x ∷ after ≡ all → length all ≤ 10 ^ 15
    → IsNumber (length before)
index_fits before x after all same few = omega (arith, place_below before x after all same, few)

pub index_is : (n : ℕ) → n + 1 - 1 ≡ n
index_is n = omega arith

path_text_is : (e : VEntity) (n : ℕ) (path : HPath) → path_text e n path
    ≡ apart_text (codes ", ") n ++ (decimal (n - 1)
    ++ (codes " => (" ++ (port_at e path.from
    ++ (codes "'last_event, (" ++ (decimal path.rise
    ++ (codes " ps, " ++ (decimal path.fall ++ (codes " ps), " ++ (gate_text e path.gate ++ codes ")")))))))))
unfolding path_text
path_text_is e n path = refl

path_spelled : (e : VEntity) (seen : ℕ) (all : List HPath) (others : List ℕ) → ArePaths e seen all others
    → (before : List HPath) (path : HPath) (after : List HPath) → before ++ path ∷ after ≡ all
    → Spells Anything false (decimal (length before + 1 - 1)
    ++ (codes " => (" ++ (port_at e path.from
    ++ (codes "'last_event, (" ++ (decimal path.rise
    ++ (codes " ps, " ++ (decimal path.fall ++ (codes " ps), " ++ (gate_text e path.gate ++ codes ")")))))))))
    (path_front e (length before + 1) path) false
path_spelled e seen all others h before path after same =
    let sound : IsPath e path = fact_at (IsPath e) all h.sound before path after same in
    let written : IsWrittenPath path = fact_at IsWrittenPath all h.written before path after same in
    let index : IsNumber (length before + 1 - 1) =
    subst IsNumber (sym (index_is (length before))) (index_fits before path after all same h.few) in
    joins (number (length before + 1 - 1) index) (λ r q. refl)
    (behind path_start (joins (name (port_at e path.from) (input_named e h.formed path.from sound.starts)) (λ r q. refl)
    (behind event_word (joins (number path.rise written.rise) (λ r q. refl)
    (behind rise_end (joins (number path.fall written.fall) (λ r q. refl) (behind fall_end
    (joins (gate_spelled e h.formed (seen_after seen (flat_map conditions_of_path before)) path.gate
    (flat_map conditions_of_path after ++ others) (path_looks e seen all others h before path after same) written.gated)
    (λ r q. refl) closed))))))))

pub paths_spelled : (e : VEntity) (seen : ℕ) (path : HPath) (all : List HPath) (others : List ℕ)
    → ArePaths e seen (path ∷ all) others
    → Spells Anything false (numbered_texts (path_text e) 1 (path ∷ all))
    (apart_front (λ q. codes "," ∷ q) (path_front e) (path ∷ all)) false
paths_spelled e seen path all others h =
    apart_spelled (codes ", ") (λ q. codes "," ∷ q) (path_text e)
    (λ n x. decimal (n - 1) ++ (codes
    " => (" ++ (port_at e x.from ++ (codes
    "'last_event, (" ++ (decimal x.rise
    ++ (codes " ps, " ++ (decimal x.fall ++ (codes " ps), " ++ (gate_text e x.gate ++ codes ")")))))))))
    (path_front e) (path_text_is e) comma (λ r. tt) path all (path_spelled e seen (path ∷ all) others h)

delays_read : (rise fall : ℕ) {s : List (List ℕ)} → IsNumber rise → IsNumber fall
    → Reads delays (codes "(" ∷ decimal rise ∷ codes "ps" ∷ codes "," ∷ decimal fall ∷ codes "ps" ∷ codes ")" ∷ codes "," ∷ s)
    (rise, fall) s
unfolding delays
delays_read rise fall h k = in_turn expected
    (in_turn (time_read rise h) (in_turn expected (in_turn (time_read fall k) (in_turn two_expected gives))))

path_read : (e : VEntity) (seen : ℕ) (all : List HPath) (others : List ℕ) → ArePaths e seen all others
    → (before : List HPath) (path : HPath) (after : List HPath) (s : List (List ℕ)) → before ++ path ∷ after ≡ all
    → Reads (next_path (scope e) (before, uses_of e (seen_after seen (flat_map conditions_of_path before))))
    (path_front e (length before + 1) path s)
    (before ++ path ∷ [], uses_of e (seen_after seen (flat_map conditions_of_path (before ++ path ∷ [])))) s
unfolding next_path
path_read e seen all others h before path after s same =
    let sound : IsPath e path = fact_at (IsPath e) all h.sound before path after same in
    let written : IsWrittenPath path = fact_at IsWrittenPath all h.written before path after same in
    let here : ℕ = seen_after seen (flat_map conditions_of_path before) in
    let tail : List (List ℕ) = codes "=>" ∷ codes
    "(" ∷ port_at e path.from ∷ codes "'" ∷ codes "last_event" ∷ codes "," ∷ codes
    "(" ∷ decimal path.rise ∷ codes "ps" ∷ codes "," ∷ decimal path.fall ∷ codes "ps"
    ∷ codes ")" ∷ codes "," ∷ gate_front e path.gate (codes ")" ∷ s) in
    let index : Reads (this_number (length before)) (decimal (length before + 1 - 1) ∷ tail) tt tail =
    from_same (ap (λ (n : ℕ). decimal n ∷ tail) (index_is (length before)))
    (this_number_read (length before) (index_fits before path after all same h.few)) in
    in_turn index (in_turn two_expected
    (in_turn (input_read e h.formed path.from sound.starts)
    (in_turn three_expected (in_turn (delays_read path.rise path.fall written.rise written.fall)
    (in_turn (gate_read e h.formed here path.gate (flat_map conditions_of_path after ++ others) s
    (path_looks e seen all others h before path after same) written.gated)
    (in_turn expected (to_same (ap (λ (n : ℕ). (before ++ path ∷ [], uses_of e n))
    (seen_with_item conditions_of_path seen before path)) gives)))))))

pub paths_read : (e : VEntity) (seen : ℕ) (path : HPath) (all : List HPath) (others : List ℕ) (s : List (List ℕ))
    → ArePaths e seen (path ∷ all) others
    → Reads (paths (scope e) (uses_of e seen))
    (codes "(" ∷ apart_front (λ q. codes "," ∷ q) (path_front e) (path ∷ all) (codes ")" ∷ s))
    (path ∷ all, uses_of e (seen_after seen (flat_map conditions_of_path (path ∷ all)))) s
unfolding paths
paths_read e seen path all others s h =
    in_turn expected (in_turn (path_read e seen (path ∷ all) others h [] path all
    (counted (λ n y q. codes "," ∷ path_front e n y q) 2 all (codes ")" ∷ s)) refl)
    (in_turn (over (λ (l : List HPath). (l, uses_of e (seen_after seen (flat_map conditions_of_path l))))
    (λ n y q. codes "," ∷ path_front e n y q) (path ∷ []) all
    (λ before x after q same rest. turns (turn refl (path_read e seen (path ∷ all) others h before x after q same)) rest)
    (codes ")" ∷ s) (no_turn refl)) (in_turn expected gives)))
