-- The calls of state tables in a written entity: their tokens and their reading.
use Rattle.std.proofs.Common.{◌≡◌, ℕ, suc, ◌+◌, ◌<◌, ◌≤◌, Bool, true, false, ◌&&◌, nat_eq, nat_lt, if◌then◌else◌, IsTrue, List}
use Rattle.std.proofs.Common.{[], ◌∷◌, ◌++◌, length, map, refl, sym, ap, ◌∙◌, arith, subst, codes, decimal}
use Rattle.std.specs.List.{IsDistinct, list_all}
use Rattle.std.proofs.lemmas.Bool.Decides.{nat_tests}
use Rattle.std.proofs.lemmas.List.{length-map, map-append}
use Rattle.std.proofs.lemmas.Bool.{and_right as and_no, and_from as and_yes, eq-eqb as equal, lt-ltb as less}
use Rattle.grammar_rules.specs.Rule.{Stops}
use Rattle.vital_models.specs.declared.model.VState.{VState}
use Rattle.vital_models.specs.declared.model.VEntity.{VEntity}
use Rattle.vital_models.specs.Sound.{IsState}
use Rattle.udp_tables.specs.Ports.{is_input_port}
use Rattle.vhdl_tokens.specs.Words.{is_vhdl_word, is_reserved, is_used, vhdl_words, used_words}
use Rattle.vhdl_tokens.specs.Tokens.{is_name}
use Rattle.vhdl_tokens.specs.Spelling.{is_same}
use Rattle.vhdl_grammar.specs.declared.scope.Columns.{Columns}
use Rattle.vhdl_grammar.specs.VhdlRules.{begins, elements, only_element, several_elements, more_elements}
use Rattle.vhdl_grammar.specs.VhdlDeclarations.{width_at}
use Rattle.vhdl_grammar.specs.VhdlNames.{violated_columns, no_columns, column_count, behind_input, takes_violation, next_column}
use Rattle.vhdl_grammar.specs.VhdlNames.{columns_of}
use Rattle.vhdl_grammar.specs.VhdlChecks.{state_call_start, state_call, state_calls}
use Rattle.vhdl_grammar.specs.WellFormed.{IsCount, IsWrittenState, IsWellFormedEntity}
use Rattle.vhdl_writer.specs.Joined.{numbered_texts}
use Rattle.vhdl_writer.specs.Names.{port_at, next_input_text, violated_text}
use Rattle.vhdl_writer.specs.Statements.{state_text}
use Rattle.grammar_reader.proofs.Fronts.{Front, Anything}
use Rattle.grammar_reader.proofs.Derivations.{Reads, to_same, gives, token, in_turn, chosen, passed, no_turn, turn, turns}
use Rattle.grammar_reader.proofs.Derivations.{goes_on}
use Rattle.grammar_reader.proofs.Spelling.{literal, joins, behind}
use Rattle.written_entities.proofs.Names.{IsNamed, unnumbered, unlike_word}
use Rattle.written_entities.proofs.Spelling.{Spells, argument}
use Rattle.written_entities.proofs.Words.{Ends, word, name}
use Rattle.written_entities.proofs.NameReading.{two_expected, three_expected, four_expected, expected, part_read}
use Rattle.written_entities.proofs.Counting.{counted, counted_spelled, counted_anywhere, begins_at, over}
use Rattle.written_entities.proofs.Elements.{names_front, comma, closed, elements_read, call_end, only_start, several_start}
use Rattle.written_entities.proofs.Parts.{part_behind, fact_at, place_below, state_number}
use Rattle.written_entities.proofs.PortLookUps.{input_named}
use Rattle.written_entities.proofs.VariableReading.{all_tables, width_is}
use Rattle.written_entities.proofs.ConditionReading.{scope, data_word, input_at, inputs_spelled, new_input, input_fits}
use Rattle.written_entities.proofs.ConditionReading.{list_end_read}
use Rattle.written_entities.proofs.Tests.{if_true, if_false}

-- Tokens.

abbrev next_front : VEntity → ℕ → ℕ → Front
next_front e n p s = codes "," ∷ port_at e p ∷ s

abbrev violated_front : VEntity → List ℕ → Front
violated_front e [] s = codes "0" ∷ codes "=>" ∷ codes "viol" ∷ s
violated_front e (p ∷ inputs) s = codes "viol" ∷ counted (next_front e) 1 (p ∷ inputs) s

abbrev columns_by : VEntity → Bool → List ℕ → Front
columns_by e true inputs s = violated_front e inputs s
columns_by e false inputs s = names_front (port_at e) inputs s

abbrev state_more : VEntity → ℕ → VState → Front
state_more e n state s =
    codes "(" ∷ codes "Result" ∷ codes "=>" ∷ (115 ∷ 95 ∷ decimal n) ∷ codes "," ∷ codes "PreviousDataIn" ∷ codes "=>"
    ∷ (112 ∷ 95 ∷ decimal n) ∷ codes "," ∷ codes "StateTable" ∷ codes "=>" ∷ (107 ∷ 95 ∷ decimal n)
    ∷ codes "," ∷ codes "DataIn" ∷ codes "=>" ∷ codes "(" ∷ columns_by e state.violation state.inputs (codes ")" ∷ codes ")"
    ∷ codes ";" ∷ s)

abbrev pub state_front : VEntity → ℕ → VState → Front
state_front e n state s = codes "VitalStateTable" ∷ state_more e n state s

state_table_word : {t : Bool} → Spells Anything t
    (codes "    VitalStateTable (Result => ") (λ s. codes "VitalStateTable" ∷ codes "(" ∷ codes "Result" ∷ codes "=>" ∷ s) false
state_table_word = literal (λ r. refl) refl

violation_word : {t : Bool} → Spells Ends t (codes "viol") (λ s. codes "viol" ∷ s) false
unfolding is_reserved is_used vhdl_words used_words
violation_word = word (codes "viol") refl refl refl

-- The columns of a state: its inputs.
record IsFed (e : VEntity) (inputs : List ℕ) : Type 0 where
  formed : IsWellFormedEntity e
  fed : IsTrue (list_all (is_input_port e.ports) inputs)
  apart : IsDistinct nat_eq inputs

next_is : (e : VEntity) (inputs : List ℕ) → IsFed e inputs → {t : Bool} (before : List ℕ) (p : ℕ) (after : List ℕ)
    → before ++ p ∷ after ≡ inputs
    → Spells Ends t (next_input_text e (length before + 1) p) (next_front e (length before + 1) p) true
unfolding next_input_text
next_is e inputs h before p after same =
    behind comma (name (port_at e p) (input_named e h.formed p (input_at e inputs h.fed before p after same)))

next_begins : (e : VEntity) (n p : ℕ) (r : List ℕ) → 1 < n → Ends r → Ends (next_input_text e n p ++ r)
unfolding next_input_text
next_begins e n p r l q = refl

inputs_behind : (e : VEntity) (p : ℕ) (inputs : List ℕ) → IsFed e (p ∷ inputs)
    → Spells Ends false (numbered_texts (next_input_text e) 1 (p ∷ inputs)) (counted (next_front e) 1 (p ∷ inputs)) true
inputs_behind e p inputs h =
    joins (next_is e (p ∷ inputs) h [] p inputs refl)
    (λ r q. begins_at Ends (next_input_text e) 1 (next_begins e) 2 inputs r (omega arith) q)
    (counted_spelled (next_input_text e) (next_front e) 1 (p ∷ []) inputs (omega arith)
    (λ before x after same l. next_is e (p ∷ inputs) h before x after same) (next_begins e))

no_items : (n : ℕ) → nat_eq (suc n) 0 ≡ false
no_items n = grind (arith, nat_tests)

behind_violation : (e : VEntity) (p : ℕ) (inputs r : List ℕ)
    → Ends ((numbered_texts (next_input_text e) 1 (p ∷ inputs) ++ codes ")") ++ r)
unfolding next_input_text
behind_violation e p inputs r = refl

violated_spelled : (e : VEntity) (inputs : List ℕ) → IsFed e inputs
    → Spells Anything false (violated_text e inputs) (λ s. codes "(" ∷ violated_front e inputs (codes ")" ∷ s)) false
unfolding violated_text
violated_spelled e [] h = behind only_start (joins violation_word (λ r q. refl) closed)
violated_spelled e (p ∷ inputs) h =
    rw (no_items (length inputs)) (behind several_start
    (joins violation_word (λ r q. behind_violation e p inputs r) (joins (inputs_behind e p inputs h) (λ r q. refl) closed)))

columns_spelled : (e : VEntity) (b : Bool) (inputs : List ℕ) → IsFed e inputs → (b ≡ false → 1 ≤ length inputs)
    → Spells Anything false (if b then violated_text e inputs else Rattle.vhdl_writer.specs.Names.inputs_text e inputs)
    (λ s. codes "(" ∷ columns_by e b inputs (codes ")" ∷ s)) false
columns_spelled e true inputs h some = violated_spelled e inputs h
columns_spelled e false inputs h some = inputs_spelled e h.formed inputs (some refl) h.fed

its_columns : (e : VEntity) → IsWellFormedEntity e → (before : List VState) (state : VState) (after : List VState)
    → before ++ state ∷ after ≡ e.states → IsFed e state.inputs
its_columns e w before state after same = record {
  formed = w;
  fed = (fact_at (IsState e) e.states w.sound.states before state after same).fed;
  apart = (fact_at IsWrittenState e.states w.states before state after same).apart;
}

some_inputs : (b : Bool) (inputs : List ℕ) → 1 ≤ (if b then length inputs + 1 else length inputs) → b ≡ false → 1 ≤ length inputs
some_inputs true inputs h e = absurd cc
some_inputs false inputs h e = h

has_inputs : (e : VEntity) → IsWellFormedEntity e → (before : List VState) (state : VState) (after : List VState)
    → before ++ state ∷ after ≡ e.states → state.violation ≡ false → 1 ≤ length state.inputs
has_inputs e w before state after same h =
    some_inputs state.violation state.inputs (fact_at IsWrittenState e.states w.states before state after same).columns h

state_spelled : (e : VEntity) (n : ℕ) (state : VState) → IsCount n → IsFed e state.inputs
    → (state.violation ≡ false → 1 ≤ length state.inputs)
    → Spells Anything false (state_text e n state) (state_front e n state) false
unfolding state_text
state_spelled e n state m h some =
    part_behind 115 n refl m state_table_word (λ r q. refl)
    (part_behind 112 n refl m (argument (codes "PreviousDataIn") (λ r. refl)) (λ r q. refl)
    (part_behind 107 n refl m (argument (codes "StateTable") (λ r. refl)) (λ r q. refl)
    (behind data_word (behind (columns_spelled e state.violation state.inputs h some) call_end))))

pub states_spelled : (e : VEntity) → IsWellFormedEntity e
    → Spells Anything false (numbered_texts (state_text e) 1 e.states) (counted (state_front e) 1 e.states) false
states_spelled e w =
    counted_anywhere (state_text e) (state_front e) e.states
    (λ before state after same. state_spelled e (length before + 1) state
    (state_number e w (length before + 1) (place_below before state after e.states same))
    (its_columns e w before state after same)
    (has_inputs e w before state after same))

a_word : is_vhdl_word (codes "viol") ≡ true
unfolding is_reserved is_used vhdl_words used_words
a_word = refl

-- a column that is an input
input_column : (e : VEntity) (inputs : List ℕ) → IsFed e inputs
    → (b : Bool) (before : List ℕ) (p : ℕ) (after : List ℕ) {s : List (List ℕ)} → before ++ p ∷ after ≡ inputs
    → Reads (next_column (scope e) (record { violation = b; inputs = before })) (port_at e p ∷ s)
    (record { violation = b; inputs = before ++ p ∷ [] }) s
unfolding next_column
input_column e inputs h b before p after same =
    let columns : Columns = record { violation = b; inputs = before } in
    let input : IsTrue (is_input_port e.ports p) = input_at e inputs h.fed before p after same in
    let n : IsNamed (port_at e p) = input_named e h.formed p input in
    token (if_false (takes_violation (scope e) columns && is_same (port_at e p) (codes "viol")) _ _
    (and_no (takes_violation (scope e) columns) (is_same (port_at e p) (codes "viol"))
    (unlike_word (port_at e p) (codes "viol") n a_word))
    ∙ if_true (is_name (port_at e p)) _ _ n.named
    ∙ ap (behind_input columns) (input_fits e h.formed before p input (new_input inputs h.apart before p after same)))

some_checks : (e : VEntity) → nat_lt 0 (length e.checks) ≡ true → nat_lt 0 (length (scope e).variables.periods) ≡ true
some_checks e h = ap (nat_lt 0) (length-map e.checks Rattle.written_entities.proofs.VariableTokens.is_period_check) ∙ h

violation_column : (e : VEntity) {s : List (List ℕ)} → nat_lt 0 (length e.checks) ≡ true
    → Reads (next_column (scope e) no_columns) (codes "viol" ∷ s) violated_columns s
unfolding next_column
violation_column e h =
    token (if_true ((nat_lt 0 (length (scope e).variables.periods) && true) && true) _ _
    (and_yes (nat_lt 0 (length (scope e).variables.periods) && true) true
    (and_yes (nat_lt 0 (length (scope e).variables.periods)) true (some_checks e h) refl) refl))

violated_read : (e : VEntity) (inputs : List ℕ) (s : List (List ℕ)) → IsFed e inputs → nat_lt 0 (length e.checks) ≡ true
    → Reads (elements (next_column (scope e)) no_columns) (violated_front e inputs (codes ")" ∷ s))
    (record { violation = true; inputs = inputs }) (codes ")" ∷ s)
unfolding elements only_element several_elements more_elements
violated_read e [] s h some = chosen refl (in_turn expected (violation_column e some))
violated_read e (p ∷ inputs) s h some =
    passed refl (in_turn (violation_column e some)
    (in_turn expected (in_turn (input_column e (p ∷ inputs) h true [] p inputs refl)
    (over (λ (l : List ℕ). record { violation = true; inputs = l }) (next_front e) (p ∷ []) inputs
    (λ before x after q same rest. turns (turn refl (input_column e (p ∷ inputs) h true before x after same)) rest)
    (codes ")" ∷ s) (no_turn refl)))))

plain_read : (e : VEntity) (inputs : List ℕ) (s : List (List ℕ)) → IsFed e inputs → 1 ≤ length inputs
    → Reads (elements (next_column (scope e)) no_columns) (names_front (port_at e) inputs (codes ")" ∷ s))
    (record { violation = false; inputs = inputs }) (codes ")" ∷ s)
plain_read e inputs s h some =
    elements_read (λ (l : List ℕ). record { violation = false; inputs = l }) (next_column (scope e)) (port_at e) inputs some
    (λ before p after same. unnumbered (port_at e p) (input_named e h.formed p (input_at e inputs h.fed before p after same)))
    (λ before p after q same. input_column e inputs h false before p after same) s

elements_by : (e : VEntity) (b : Bool) (inputs : List ℕ) (s : List (List ℕ)) → IsFed e inputs
    → IsTrue (if b then nat_lt 0 (length e.checks) else true) → (b ≡ false → 1 ≤ length inputs)
    → Reads (elements (next_column (scope e)) no_columns) (columns_by e b inputs (codes ")" ∷ s))
    (record { violation = b; inputs = inputs }) (codes ")" ∷ s)
elements_by e true inputs s h violated some = violated_read e inputs s h violated
elements_by e false inputs s h violated some = plain_read e inputs s h (some refl)

abbrev pub columns_for : VState → Columns
columns_for state = record { violation = state.violation; inputs = state.inputs }

columns_read : (e : VEntity) → IsWellFormedEntity e
    → (before : List VState) (state : VState) (after : List VState) (s : List (List ℕ)) → before ++ state ∷ after ≡ e.states
    → Reads (columns_of (scope e) (length before)) (columns_by e state.violation state.inputs (codes ")" ∷ s))
    (columns_for state) s
unfolding columns_of
columns_read e w before state after s same =
    in_turn (elements_by e state.violation state.inputs s (its_columns e w before state after same)
    (fact_at (IsState e) e.states w.sound.states before state after same).violated (has_inputs e w before state after same))
    (in_turn (list_end_read (width_at (all_tables e) (length before)) (column_count (columns_for state))
    (sym (width_is e w before state after same))) gives)

start_read : (e : VEntity) → IsWellFormedEntity e
    → (before : List VState) (state : VState) (after : List VState) (s : List (List ℕ)) → before ++ state ∷ after ≡ e.states
    → Reads (state_call_start (scope e) (length before))
    (codes "(" ∷ codes "Result" ∷ codes "=>" ∷ (115 ∷ 95 ∷ decimal (length before + 1)) ∷ codes "," ∷ codes "PreviousDataIn"
    ∷ codes "=>"
    ∷ (112 ∷ 95 ∷ decimal (length before + 1)) ∷ codes "," ∷ codes "StateTable" ∷ codes "=>"
    ∷ (107 ∷ 95 ∷ decimal (length before + 1)) ∷ codes "," ∷ codes "DataIn" ∷ codes "=>" ∷ codes "(" ∷ s) tt s
unfolding state_call_start
start_read e w before state after s same =
    let n : ℕ = length before + 1 in
    let below : n ≤ length e.states = place_below before state after e.states same in
    let m : IsCount n = state_number e w n below in
    let b : Bool = nat_lt (length before) (length (all_tables e).states) in
    let there : b ≡ true = less (length before) (length (all_tables e).states)
    (omega (arith, below, length-map e.states (λ (x : VState). x.table))) in
    in_turn three_expected (in_turn (part_read b 115 n refl m there)
    (in_turn three_expected (in_turn (part_read b 112 n refl m there)
    (in_turn three_expected (in_turn (part_read b 107 n refl m there) four_expected)))))

state_read : (e : VEntity) → IsWellFormedEntity e
    → (before : List VState) (state : VState) (after : List VState) (s : List (List ℕ)) → before ++ state ∷ after ≡ e.states
    → Reads (state_call (scope e) (map columns_for before)) (state_more e (length before + 1) state s)
    (map columns_for (before ++ state ∷ [])) s
unfolding state_call
state_read e w before state after s same =
    let same_length : length before ≡ length (map columns_for before) = sym (length-map before columns_for) in
    let columns : List (List ℕ) = columns_by e state.violation state.inputs (codes ")" ∷ codes ")" ∷ codes ";" ∷ s) in
    in_turn (subst (λ (g : ℕ). Reads (state_call_start (scope e) g)
    (codes "(" ∷ codes "Result" ∷ codes "=>" ∷ (115 ∷ 95 ∷ decimal (length before + 1)) ∷ codes "," ∷ codes "PreviousDataIn"
    ∷ codes "=>"
    ∷ (112 ∷ 95 ∷ decimal (length before + 1)) ∷ codes "," ∷ codes "StateTable" ∷ codes "=>"
    ∷ (107 ∷ 95 ∷ decimal (length before + 1)) ∷ codes "," ∷ codes "DataIn" ∷ codes "=>" ∷ codes "(" ∷ columns) tt columns)
    same_length (start_read e w before state after columns same))
    (in_turn (subst (λ (g : ℕ). Reads (columns_of (scope e) g) columns (columns_for state) (codes ")" ∷ codes ";" ∷ s))
    same_length (columns_read e w before state after (codes ")" ∷ codes ";" ∷ s) same))
    (in_turn two_expected (to_same (sym (map-append columns_for before (state ∷ []))) gives)))

pub states_read : (e : VEntity) → IsWellFormedEntity e → (s : List (List ℕ)) → Stops (begins (codes "VitalStateTable")) s
    → Reads (state_calls (scope e)) (counted (state_front e) 1 e.states s) (map columns_for e.states) s
unfolding state_calls
states_read e w s stop =
    in_turn (over (λ (l : List VState). map columns_for l) (state_front e) [] e.states
    (λ before state after q same rest. turns (turn refl (state_read e w before state after q same)) rest) s (no_turn stop))
    (in_turn (goes_on (nat_eq (length (map columns_for e.states)) (length (all_tables e).states)) s
    (equal (length (map columns_for e.states)) (length (all_tables e).states)
    (length-map e.states columns_for ∙ sym (length-map e.states (λ (x : VState). x.table))))) gives)
