-- Written tables are read from their tokens.
use Rattle.std.proofs.Common.{◌≡◌, ℕ, ◌≤◌, true, nat_eq, List, [], ◌∷◌, ◌++◌, length, refl, sym, ◌∙◌, arith, subst, codes}
use Rattle.std.specs.List.{AllByRecursion}
use Rattle.std.proofs.lemmas.Bool.{eq-eqb as equal}
use Rattle.grammar_reader.specs.Words.{Grammar}
use Rattle.vital_models.specs.declared.table.TruthRow.{TruthRow}
use Rattle.vital_models.specs.declared.table.TruthTable.{TruthTable}
use Rattle.vital_models.specs.declared.table.VStateRow.{VStateRow}
use Rattle.vital_models.specs.declared.table.VStateTable.{VStateTable}
use Rattle.vhdl_grammar.specs.VhdlRules.{elements, only_element, several_elements, more_elements}
use Rattle.vhdl_grammar.specs.VhdlTables.{is_as_long_as_state_rows, state_row, state_table, is_as_long_as_truth_rows, truth_row}
use Rattle.vhdl_grammar.specs.VhdlTables.{truth_table}
use Rattle.vhdl_grammar.specs.WellFormed.{HasOneEdge}
use Rattle.grammar_reader.proofs.Fronts.{Front, each}
use Rattle.grammar_reader.proofs.Derivations.{Reads, gives, in_turn, chosen, passed, turn, through}
use Rattle.grammar_reader.proofs.ItemPlaces.{at_place}
use Rattle.written_entities.proofs.TableTokens.{truth_row_front, state_row_front, rows_front}
use Rattle.written_entities.proofs.RowReading.{expected, truth_row_read, state_row_read}

-- rows are read, where each is read behind those before it
rows_read : {R : Type 0} (front : R → Front) (element : List R → Grammar (List R)) (rows : List R) → 1 ≤ length rows
    → ((before : List R) (row : R) (after : List R) (s : List (List ℕ)) → before ++ row ∷ after ≡ rows
    → Reads (element before) (codes "(" ∷ front row s) (before ++ row ∷ []) s)
    → (s : List (List ℕ)) → Reads (elements element []) (rows_front front rows (codes ")" ∷ s)) rows (codes ")" ∷ s)
unfolding elements only_element several_elements more_elements
rows_read front element [] some h s = absurd (omega (arith, some))
rows_read front element (row ∷ []) some h s = chosen refl (in_turn (expected refl) (h [] row [] (codes ")" ∷ s) refl))
rows_read {R = R} front element (row ∷ one ∷ rows) some h s =
    let others : List (List ℕ) = each (λ r q. codes "," ∷ codes "(" ∷ front r q) rows (codes ")" ∷ s) in
    passed refl (in_turn (h [] row (one ∷ rows) (codes "," ∷ codes "(" ∷ front one others) refl)
    (in_turn (expected refl) (in_turn (h (row ∷ []) one rows others refl)
    (through (λ (l : List R). l) (λ r q. codes "," ∷ codes "(" ∷ front r q) (row ∷ one ∷ []) rows
    (λ before x after q e. turn refl (h before x after q e)) (codes ")" ∷ s) refl))))

-- a row that has so many columns
abbrev HasWidth : {R : Type 0} → (R → ℕ) → ℕ → R → Type 0
HasWidth width columns row = width row ≡ columns

-- a row behind others has as many columns as the first one
same_width : {R : Type 0} (width : R → ℕ) (columns : ℕ) (first : R) (before : List R) (row : R) (after : List R)
    → AllByRecursion (HasWidth width columns) ((first ∷ before) ++ row ∷ after)
    → nat_eq (width row) (width first) ≡ true
same_width width columns first before row after h =
    equal (width row) (width first) (at_place (HasWidth width columns) before row after h.1 ∙ sym h.0)

-- how many columns a row has
abbrev truth_width : TruthRow → ℕ
truth_width row = length row.inputs

abbrev state_width : VStateRow → ℕ
state_width row = length row.inputs

-- Truth tables.

truth_as_long : (columns : ℕ) (before : List TruthRow) (row : TruthRow) (after : List TruthRow)
    → AllByRecursion (HasWidth truth_width columns) (before ++ row ∷ after)
    → is_as_long_as_truth_rows before row ≡ true
truth_as_long columns [] row after h = refl
truth_as_long columns (first ∷ before) row after h = same_width truth_width columns first before row after h

-- a truth table is read
pub truth_table_read : (columns : ℕ) (table : TruthTable) (s : List (List ℕ)) → 1 ≤ columns → 1 ≤ length table.rows
    → AllByRecursion (HasWidth truth_width columns) table.rows
    → Reads truth_table (codes "(" ∷ rows_front truth_row_front table.rows (codes ")" ∷ s)) table s
unfolding truth_table
truth_table_read columns table s some most all =
    in_turn (expected refl)
    (in_turn (rows_read truth_row_front truth_row table.rows most
    (λ before row after q e. (let here = subst (AllByRecursion (HasWidth truth_width columns)) (sym e) all in
    truth_row_read before row q (subst (λ n. 1 ≤ n) (sym (at_place (HasWidth truth_width columns) before row after here)) some)
    (truth_as_long columns before row after here))) s)
    (in_turn (expected refl) gives))

-- Tables of states.

state_as_long : (columns : ℕ) (before : List VStateRow) (row : VStateRow) (after : List VStateRow)
    → AllByRecursion (HasWidth state_width columns) (before ++ row ∷ after)
    → is_as_long_as_state_rows before row ≡ true
state_as_long columns [] row after h = refl
state_as_long columns (first ∷ before) row after h = same_width state_width columns first before row after h

-- the table of a state is read
pub state_table_read : (columns : ℕ) (table : VStateTable) (s : List (List ℕ)) → 1 ≤ columns → 1 ≤ length table.rows
    → AllByRecursion (HasWidth state_width columns) table.rows
    → AllByRecursion HasOneEdge table.rows
    → Reads state_table (codes "(" ∷ rows_front state_row_front table.rows (codes ")" ∷ s)) table s
unfolding state_table
state_table_read columns table s some most all edges =
    in_turn (expected refl)
    (in_turn (rows_read state_row_front state_row table.rows most
    (λ before row after q e. (let here = subst (AllByRecursion (HasWidth state_width columns)) (sym e) all in
    state_row_read before row q (subst (λ n. 1 ≤ n) (sym (at_place (HasWidth state_width columns) before row after here)) some)
    (at_place HasOneEdge before row after (subst (AllByRecursion HasOneEdge) (sym e) edges))
    (state_as_long columns before row after here))) s)
    (in_turn (expected refl) gives))
