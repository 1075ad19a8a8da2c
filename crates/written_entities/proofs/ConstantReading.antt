-- The constants of a written architecture: their tokens and their reading.
use Rattle.std.proofs.Common.{◌≡◌, ℕ, ◌+◌, ◌-◌, ◌≤◌, Bool, false, ◌&&◌, cond, nat_eq, List, [], ◌∷◌, ◌++◌, length, map, take}
use Rattle.std.proofs.Common.{flat_map, Some, refl, sym, ap, ◌∙◌, arith, subst, codes, decimal, length-append}
use Rattle.std.specs.Prelude.{count_by}
use Rattle.std.specs.List.{AllByRecursion}
use Rattle.std.proofs.lemmas.List.{map-append, length-map, append-nil}
use Rattle.std.proofs.lemmas.List.Sums.{sum_by-cons}
use Rattle.std.proofs.lemmas.List.Elements.{recursion_from_All}
use Rattle.std.proofs.lemmas.Grind.{flat_map-append}
use Rattle.std.proofs.Math.Seq.{take-append_seam}
use Rattle.grammar_rules.specs.Rule as r
use Rattle.vital_models.specs.declared.table.TruthRow.{TruthRow}
use Rattle.vital_models.specs.declared.table.TruthTable.{TruthTable}
use Rattle.vital_models.specs.declared.table.VStateRow.{VStateRow}
use Rattle.vital_models.specs.declared.table.VStateTable.{VStateTable}
use Rattle.vital_models.specs.declared.model.VState.{VState}
use Rattle.vital_models.specs.declared.model.VTruth.{VTruth}
use Rattle.vital_models.specs.declared.model.OutValue.{OutValue}
use Rattle.vital_models.specs.declared.model.OutValue.TheVariants as value
use Rattle.vital_models.specs.declared.model.VOutput.{VOutput}
use Rattle.vital_models.specs.declared.model.VEntity.{VEntity}
use Rattle.vital_models.specs.Sound.{columns_of, IsState, IsTruth, IsValue, IsOutput}
use Rattle.vhdl_tokens.specs.Words.{is_reserved, is_used, vhdl_words, used_words}
use Rattle.vhdl_tokens.specs.Spelling.{is_same}
use Rattle.vhdl_grammar.specs.declared.scope.Tables.{Tables}
use Rattle.vhdl_grammar.specs.VhdlRules.{begins}
use Rattle.vhdl_grammar.specs.VhdlTables.{StateOrOutput, Condition, is_before_outputs, constant_of, assigned_truth_table}
use Rattle.vhdl_grammar.specs.VhdlTables.{condition_constant, output_constant, state_constant, constant, constants}
use Rattle.vhdl_grammar.specs.WellFormed.{IsCount, HasOneEdge, IsWrittenState, IsWrittenTruth, IsWrittenValue, IsWrittenOutput}
use Rattle.vhdl_grammar.specs.WellFormed.{IsWellFormedEntity}
use Rattle.vhdl_writer.specs.Tables.{state_rows_text, truth_rows_text, state_constant_text, condition_constant_text, is_looked_up}
use Rattle.vhdl_writer.specs.Tables.{table_number, output_table_text, value_constant_text, output_constant_text, constants_text}
use Rattle.grammar_reader.proofs.Fronts.{Front, Anything}
use Rattle.grammar_reader.proofs.Derivations.{Reads, to_same, gives, in_turn, chosen, passed, no_turn, turn, turns}
use Rattle.grammar_reader.proofs.Spelling.{literal, behind, nothing}
use Rattle.written_entities.proofs.Names.{part_named, same_self}
use Rattle.written_entities.proofs.Spelling.{Spells}
use Rattle.written_entities.proofs.TableTokens.{truth_row_front, state_row_front, rows_front, truth_rows, state_rows}
use Rattle.written_entities.proofs.TableReading.{truth_table_read, state_table_read}
use Rattle.written_entities.proofs.NameReading.{expected, known_as}
use Rattle.written_entities.proofs.Counting.{counted, counted_anywhere, over}
use Rattle.written_entities.proofs.Parts.{part_behind, fact_at, place_below, counted_parts, state_number, condition_number}
use Rattle.written_entities.proofs.Parts.{table_number_is}
use Rattle.written_entities.proofs.Tests.{if_true, if_either}
use Rattle.written_entities.proofs.Elements.{call_end}

-- Tokens.

abbrev state_constant_front : ℕ → VState → Front
state_constant_front n state s =
    codes "constant" ∷ (107 ∷ 95 ∷ decimal n) ∷ codes ":" ∷ codes "VitalStateTableType" ∷ codes ":=" ∷ codes
    "(" ∷ rows_front state_row_front state.table.rows (codes ")" ∷ codes ";" ∷ s)

abbrev truth_constant_front : List ℕ → TruthTable → Front
truth_constant_front name table s =
    codes "constant" ∷ name ∷ codes ":" ∷ codes "VitalTruthTableType" ∷ codes ":=" ∷ codes
    "(" ∷ rows_front truth_row_front table.rows (codes ")" ∷ codes ";" ∷ s)

abbrev condition_constant_front : ℕ → VTruth → Front
condition_constant_front n truth = truth_constant_front (99 ∷ 95 ∷ decimal n) truth.table

abbrev value_constant_front : VEntity → ℕ → OutValue → Front
value_constant_front e n (value.Constant one) s = s
value_constant_front e n (value.Table table sources) s = truth_constant_front (107 ∷ 95 ∷ decimal (table_number e n)) table s

abbrev output_constant_front : VEntity → ℕ → VOutput → Front
output_constant_front e n output = value_constant_front e n output.value

abbrev pub constants_front : VEntity → Front
constants_front e s = counted state_constant_front 1 e.states
    (counted condition_constant_front 1 e.conditions (counted (output_constant_front e) 1 e.outputs s))

constant_word : {t : Bool} → Spells Anything t (codes "  constant ") (λ s. codes "constant" ∷ s) false
unfolding is_reserved is_used vhdl_words used_words
constant_word = literal (λ r. refl) refl

state_type : {t : Bool} → Spells Anything t
    (codes " : VitalStateTableType := (") (λ s. codes ":" ∷ codes "VitalStateTableType" ∷ codes ":=" ∷ codes "(" ∷ s) false
state_type = literal (λ r. refl) refl

truth_type : {t : Bool} → Spells Anything t
    (codes " : VitalTruthTableType := (") (λ s. codes ":" ∷ codes "VitalTruthTableType" ∷ codes ":=" ∷ codes "(" ∷ s) false
truth_type = literal (λ r. refl) refl

state_constant_spelled : (n : ℕ) (state : VState) → IsCount n
    → Spells Anything false (state_constant_text n state) (state_constant_front n state) false
unfolding state_constant_text state_rows_text
state_constant_spelled n state h =
    part_behind 107 n refl h constant_word (λ r q. refl) (behind state_type (behind (state_rows state.table.rows) call_end))

condition_constant_spelled : (n : ℕ) (truth : VTruth) → IsCount n
    → Spells Anything false (condition_constant_text n truth) (condition_constant_front n truth) false
unfolding condition_constant_text truth_rows_text
condition_constant_spelled n truth h =
    part_behind 99 n refl h constant_word (λ r q. refl) (behind truth_type (behind (truth_rows truth.table.rows) call_end))

output_constant_spelled : (e : VEntity) (n : ℕ) (v : OutValue) → IsCount (table_number e n)
    → Spells Anything false (value_constant_text e n v) (value_constant_front e n v) false
unfolding output_table_text truth_rows_text
output_constant_spelled e n (value.Constant one) h = nothing
output_constant_spelled e n (value.Table table sources) h =
    part_behind 107 (table_number e n) refl h constant_word (λ r q. refl)
    (behind truth_type (behind (truth_rows table.rows) call_end))

-- The tables of outputs.

abbrev pub value_tables : OutValue → List TruthTable
value_tables (value.Constant one) = []
value_tables (value.Table table sources) = table ∷ []

abbrev pub tables_of_output : VOutput → List TruthTable
tables_of_output output = value_tables output.value

abbrev pub output_tables : List VOutput → List TruthTable
output_tables outputs = flat_map tables_of_output outputs

one_table : (v : OutValue) → ◌≡◌ {A = ℕ} (cond (Rattle.vhdl_writer.specs.Tables.has_table v) 1 0) (length (value_tables v))
one_table (value.Constant one) = refl
one_table (value.Table table sources) = refl

pub count_tables : (outputs : List VOutput) → count_by is_looked_up outputs ≡ length (output_tables outputs)
unfolding is_looked_up
count_tables [] = refl
count_tables (output ∷ outputs) =
    omega (
      arith,
      sum_by-cons (λ (o : VOutput). cond (is_looked_up o) 1 0) output outputs,
      one_table output.value,
      count_tables
          outputs,
      length-append (tables_of_output output) (output_tables outputs),
    )

few_tables : (outputs : List VOutput) → length (output_tables outputs) ≤ length outputs
few_tables [] = omega arith
few_tables (output ∷ outputs) = omega
    (arith, at_most_one output.value, few_tables outputs, length-append (tables_of_output output) (output_tables outputs))
  where
    at_most_one : (v : OutValue) → length (value_tables v) ≤ 1
    at_most_one (value.Constant one) = omega arith
    at_most_one (value.Table table sources) = omega arith

before_it : (before : List VOutput) (output : VOutput) (after : List VOutput)
    → take (length before + 1 - 1) (before ++ output ∷ after) ≡ before
before_it before output after =
    let same : length before + 1 - 1 ≡ length before = omega arith in
    ap (λ (n : ℕ). take n (before ++ output ∷ after)) same ∙ take-append_seam before (output ∷ after)

-- the number of an output's table
pub its_number : (e : VEntity) (before : List VOutput) (output : VOutput) (after : List VOutput)
    → before ++ output ∷ after ≡ e.outputs
    → table_number e (length before + 1) ≡ length e.states + (length (output_tables before) + 1)
its_number e before output after same =
    ap (λ (l : List VOutput). length e.states + (count_by is_looked_up (take (length before + 1 - 1) l) + 1)) (sym same)
    ∙ ap (λ (l : List VOutput). length e.states + (count_by is_looked_up l + 1)) (before_it before output after)
    ∙ ap (λ (n : ℕ). length e.states + (n + 1)) (count_tables before)

pub its_number_fits : (e : VEntity) → IsWellFormedEntity e → (before : List VOutput) (output : VOutput) (after : List VOutput)
    → before ++ output ∷ after ≡ e.outputs
    → IsCount (table_number e (length before + 1))
its_number_fits e w before output after same =
    table_number_is e w (table_number e (length before + 1))
    (omega (arith, its_number e before output after same, few_tables before, place_below before output after e.outputs same))

-- the constants of a well formed entity
pub constants_spelled : (e : VEntity) → IsWellFormedEntity e → Spells Anything false (constants_text e) (constants_front e) false
unfolding constants_text
constants_spelled e w =
    behind (counted_parts state_constant_text state_constant_front e.states (state_number e w) state_constant_spelled)
    (behind
    (counted_parts condition_constant_text condition_constant_front e.conditions (condition_number e w) condition_constant_spelled)
    (counted_anywhere (output_constant_text e) (output_constant_front e) e.outputs
    (λ before output after same. output_constant_spelled e (length before + 1) output.value
    (its_number_fits e w before output after same))))

-- Reading.

abbrev table_of : VState → VStateTable
table_of state = state.table

abbrev condition_table_of : VTruth → TruthTable
condition_table_of truth = truth.table

abbrev pub tables_up_to : List VState → List VTruth → List VOutput → Tables
tables_up_to states conditions outputs =
    record { states = map table_of states; conditions = map condition_table_of conditions; outputs = output_tables outputs }

is_next_table : (tables : Tables) (n : ℕ) → length tables.states + length tables.outputs + 1 ≡ n
    → constant_of tables (107 ∷ 95 ∷ decimal n) ≡ Some StateOrOutput
is_next_table tables n e =
    if_true (is_same (107 ∷ 95 ∷ decimal n) (107 ∷ 95 ∷ decimal (length tables.states + length tables.outputs + 1))) _ _
    (ap (λ (m : ℕ). is_same (107 ∷ 95 ∷ decimal n) (107 ∷ 95 ∷ decimal m)) e ∙ same_self (107 ∷ 95 ∷ decimal n))

is_next_condition : (states : List VStateTable) (conditions : List TruthTable) (n : ℕ) → length conditions + 1 ≡ n
    → constant_of (record { states = states; conditions = conditions; outputs = [] }) (99 ∷ 95 ∷ decimal n) ≡ Some Condition
is_next_condition states conditions n e =
    if_true (is_same (99 ∷ 95 ∷ decimal n) (99 ∷ 95 ∷ decimal (length conditions + 1))) _ _
    (ap (λ (m : ℕ). is_same (99 ∷ 95 ∷ decimal n) (99 ∷ 95 ∷ decimal m)) e ∙ same_self (99 ∷ 95 ∷ decimal n))

state_constant_read : (e : VEntity) → IsWellFormedEntity e
    → (before : List VState) (state : VState) (after : List VState) (q : List (List ℕ)) → before ++ state ∷ after ≡ e.states
    → Reads (constant (tables_up_to before [] []))
    ((107 ∷ 95 ∷ decimal (length before + 1)) ∷ codes ":" ∷ codes "VitalStateTableType" ∷ codes ":=" ∷ codes "("
    ∷ rows_front state_row_front state.table.rows (codes ")" ∷ codes ";" ∷ q)) (tables_up_to (before ++ state ∷ []) [] []) q
unfolding constant state_constant
state_constant_read e w before state after q same =
    let n : ℕ = length before + 1 in
    let written : IsWrittenState state = fact_at IsWrittenState e.states w.states before state after same in
    let sound : IsState e state = fact_at (IsState e) e.states w.sound.states before state after same in
    let place : length (map table_of before) + 0 + 1 ≡ n = omega (arith, length-map before table_of) in
    in_turn (known_as (constant_of (tables_up_to before [] []))
    (part_named 107 n refl (state_number e w n (place_below before state after e.states same)))
    (is_next_table (tables_up_to before [] []) n place))
    (in_turn expected (chosen refl (in_turn expected
    (in_turn (state_table_read (columns_of state) state.table (codes ";" ∷ q) written.columns written.rows
    (recursion_from_All (λ (row : VStateRow). length row.inputs ≡ columns_of state) state.table.rows sound.rows)
    (recursion_from_All HasOneEdge state.table.rows written.edges))
    (in_turn expected (to_same (ap (λ (l : List VStateTable). record { states = l; conditions = []; outputs = [] })
    (sym (map-append table_of before (state ∷ [])))) gives))))))

truth_read : (columns : ℕ) (table : TruthTable) (q : List (List ℕ)) → 1 ≤ columns → 1 ≤ length table.rows
    → AllByRecursion (λ (row : TruthRow). length row.inputs ≡ columns) table.rows
    → Reads assigned_truth_table (codes ":=" ∷ codes "(" ∷ rows_front truth_row_front table.rows (codes ")" ∷ codes ";" ∷ q))
    table q
unfolding assigned_truth_table
truth_read columns table q some most all =
    in_turn expected (in_turn (truth_table_read columns table (codes ";" ∷ q) some most all) (in_turn expected gives))

condition_constant_read : (e : VEntity) → IsWellFormedEntity e
    → (before : List VTruth) (truth : VTruth) (after : List VTruth) (q : List (List ℕ)) → before ++ truth ∷ after ≡ e.conditions
    → Reads (constant (tables_up_to e.states before []))
    ((99 ∷ 95 ∷ decimal (length before + 1)) ∷ codes ":" ∷ codes "VitalTruthTableType" ∷ codes ":=" ∷ codes "("
    ∷ rows_front truth_row_front truth.table.rows (codes ")" ∷ codes ";" ∷ q)) (tables_up_to e.states (before ++ truth ∷ []) []) q
unfolding constant condition_constant
condition_constant_read e w before truth after q same =
    let n : ℕ = length before + 1 in
    let written : IsWrittenTruth truth = fact_at IsWrittenTruth e.conditions w.conditions before truth after same in
    let sound : IsTruth e truth = fact_at (IsTruth e) e.conditions w.sound.conditions before truth after same in
    let place : length (map condition_table_of before) + 1 ≡ n = omega (arith, length-map before condition_table_of) in
    in_turn (known_as (constant_of (tables_up_to e.states before []))
    (part_named 99 n refl (condition_number e w n (place_below before truth after e.conditions same)))
    (is_next_condition (map table_of e.states) (map condition_table_of before) n place))
    (in_turn expected (in_turn expected
    (in_turn (truth_read (length truth.inputs) truth.table q written.columns written.rows
    (recursion_from_All (λ (row : TruthRow). length row.inputs ≡ length truth.inputs) truth.table.rows sound.rows))
    (to_same (ap (λ (l : List TruthTable). record { states = map table_of e.states; conditions = l; outputs = [] })
    (sym (map-append condition_table_of before (truth ∷ [])))) gives))))

abbrev AllTurns : Tables → List (List ℕ) → Tables → List (List ℕ) → Type 0
AllTurns tables s v left = Reads (r.Many (λ _. begins (codes "constant")) (λ tables _. constant tables) tables) s v left

output_constant_by : (e : VEntity) → IsWellFormedEntity e
    → (before : List VOutput) (n : ℕ) (v : OutValue) {end : Tables} {left : List (List ℕ)} (q : List (List ℕ))
    → length e.states + (length (output_tables before) + 1) ≡ table_number e n → IsCount (table_number e n) → IsValue e v
    → IsWrittenValue v
    → AllTurns (record {
      states = map table_of e.states;
      conditions = map condition_table_of e.conditions;
      outputs =
          output_tables before ++ value_tables v;
    }) q end left
    → AllTurns (tables_up_to e.states e.conditions before) (value_constant_front e n v q) end left
unfolding constant output_constant
output_constant_by e w before n (value.Constant one) {end = end} {left = left} q place number sound written rest =
    subst (λ (l : List TruthTable). AllTurns
    (record { states = map table_of e.states; conditions = map condition_table_of e.conditions; outputs = l }) q end left)
    (append-nil (output_tables before)) rest
output_constant_by e w before n (value.Table table sources) q place number sound written rest =
    let tables : Tables = tables_up_to e.states e.conditions before in
    let k : ℕ = table_number e n in
    let next : length (map table_of e.states) + length (output_tables before) + 1 ≡ k =
    omega (arith, place, length-map e.states table_of) in
    turns (turn refl (in_turn (known_as (constant_of tables) (part_named 107 k refl number) (is_next_table tables k next))
    (in_turn expected (passed (if_either (is_before_outputs tables && nat_eq (length tables.conditions) 0)) (in_turn expected
    (in_turn (truth_read (length sources) table q written.columns written.rows
    (recursion_from_All (λ (row : TruthRow). length row.inputs ≡ length sources) table.rows sound.0)) gives)))))) rest

with_output : (before : List VOutput) (output : VOutput)
    → output_tables (before ++ output ∷ []) ≡ output_tables before ++ value_tables output.value
with_output before output = flat_map-append tables_of_output before (output ∷ [])
    ∙ ap (λ (l : List TruthTable). output_tables before ++ l) (append-nil (value_tables output.value))

pub constants_read : (e : VEntity) → IsWellFormedEntity e → (s : List (List ℕ))
    → Reads constants (constants_front e (codes "begin" ∷ s)) (tables_up_to e.states e.conditions e.outputs) (codes "begin" ∷ s)
unfolding constants
constants_read e w s =
    let outputs : List (List ℕ) = counted (output_constant_front e) 1 e.outputs (codes "begin" ∷ s) in
    let conditions : List (List ℕ) = counted condition_constant_front 1 e.conditions outputs in
    over (λ (l : List VState). tables_up_to l [] []) state_constant_front [] e.states
    (λ before state after q same rest. turns (turn refl (state_constant_read e w before state after q same)) rest) conditions
    (over (λ (l : List VTruth). tables_up_to e.states l []) condition_constant_front [] e.conditions
    (λ before truth after q same rest. turns (turn refl (condition_constant_read e w before truth after q same)) rest) outputs
    (over (λ (l : List VOutput). tables_up_to e.states e.conditions l) (output_constant_front e) [] e.outputs
    (λ before output after q same rest.
    output_constant_by e w before (length before + 1) output.value q (sym (its_number e before output after same))
    (its_number_fits e w before output after same)
    (fact_at (IsOutput e) e.outputs w.sound.outputs before output after same).valued
    (fact_at IsWrittenOutput e.outputs w.outputs before output after same).valued
    (subst (λ (l : List TruthTable). AllTurns
    (record { states = map table_of e.states; conditions = map condition_table_of e.conditions; outputs = l }) q
    (tables_up_to e.states e.conditions e.outputs) (codes "begin" ∷ s))
    (with_output before output) rest)) (codes "begin" ∷ s) (no_turn refl)))
