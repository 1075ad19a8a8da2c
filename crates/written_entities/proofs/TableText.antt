-- The texts of tables are read as these tables.
use Rattle.std.proofs.Common.{◌≡◌, ℕ, ◌≤◌, Bool, false, List, [], ◌∷◌, length, sym, ap, ◌∙◌, subst, codes}
use Rattle.std.proofs.lemmas.List.Elements.{recursion_from_All}
use Rattle.grammar_rules.specs.Rule.{Takes}
use Rattle.grammar_rules.proofs.Exact.{complete}
use Rattle.grammar_rules.proofs.Steps.{value_is}
use Rattle.grammar_reader.specs.declared.refusal.Refusal.{Refusal}
use Rattle.grammar_reader.specs.Words.{Grammar}
use Rattle.vital_models.specs.declared.table.TruthRow.{TruthRow}
use Rattle.vital_models.specs.declared.table.TruthTable.{TruthTable}
use Rattle.vital_models.specs.declared.table.VStateRow.{VStateRow}
use Rattle.vital_models.specs.declared.model.VState.{VState}
use Rattle.vital_models.specs.Sound.{IsTruthTable, IsStateTable, columns_of}
use Rattle.vhdl_grammar.specs.VhdlTables.{truth_table, state_table}
use Rattle.vhdl_tokens.specs.Tokens.{lexis}
use Rattle.grammar_reader.specs.Texts.{text_tokens, lexical_place}
use Rattle.vhdl_grammar.specs.WellFormed.{HasOneEdge, IsWrittenState}
use Rattle.vhdl_writer.specs.Tables.{truth_rows_text, state_rows_text}
use Rattle.grammar_reader.proofs.Fronts.{Anything}
use Rattle.grammar_reader.proofs.ItemPlaces.{none_if}
use Rattle.written_entities.specs.Laws.{truth_table_text, state_table_text, IsTruthTableText, IsStateTableText}
use Rattle.written_entities.specs.Laws.{TruthTableReadBack, StateTableReadBack}
use Rattle.grammar_reader.proofs.Spelling.{all_found, behind}
use Rattle.written_entities.proofs.Spelling.{Spells}
use Rattle.written_entities.proofs.TableTokens.{opened, closed, truth_row_front, state_row_front, rows_front, truth_rows}
use Rattle.written_entities.proofs.TableTokens.{state_rows}
use Rattle.written_entities.proofs.TableReading.{truth_table_read, state_table_read}

-- a grammar takes one value
same_value : {A : Type 0} (p : Grammar A) (s : List (List ℕ)) (a b : A) → Takes p s a [] → Takes p s b [] → a ≡ b
same_value {A = A} p s a b h k = value_is {T = List ℕ} {K = Refusal} {A = A} (sym (complete p s a [] h) ∙ complete p s b [] k)

-- Truth tables.

truth_spelled : (table : TruthTable)
    → Spells Anything false (truth_table_text table) (λ s. codes "(" ∷ rows_front truth_row_front table.rows (codes ")" ∷ s))
    false
unfolding truth_table_text truth_rows_text
truth_spelled table = behind opened (behind (truth_rows table.rows) closed)

truth_is : (columns : ℕ) (table : TruthTable) → 1 ≤ columns → 1 ≤ length table.rows → IsTruthTable columns table
    → IsTruthTableText (truth_table_text table) table
truth_is columns table some most all =
    let e = all_found (truth_spelled table) in
    let tokens : text_tokens lexis (truth_table_text table) ≡ codes "(" ∷ rows_front truth_row_front table.rows (codes ")" ∷ []) =
    ap (λ (p : List (List ℕ) × Bool). p.0) e in
    let reads = truth_table_read columns table [] some most
    (recursion_from_All (λ (row : TruthRow). length row.inputs ≡ columns) table.rows all) in
    record {
      lexes = none_if (lexical_place lexis (truth_table_text table)) (ap (λ (p : List (List ℕ) × Bool). p.1) e);
      takes = subst (λ (s : List (List ℕ)). Takes truth_table s table []) (sym tokens) reads.taken;
    }

-- a truth table reads back
pub truth_table_read_back : (columns : ℕ) (table : TruthTable) → 1 ≤ columns → 1 ≤ length table.rows → IsTruthTable columns table
    → TruthTableReadBack table
truth_table_read_back columns table some most all =
    let h = truth_is columns table some most all in
    record {
      text = h;
      only = λ other k. same_value truth_table (text_tokens lexis (truth_table_text table)) other table k.takes
          h.takes;
    }

-- Tables of states.

state_spelled : (state : VState) → Spells Anything false (state_table_text state)
    (λ s. codes "(" ∷ rows_front state_row_front state.table.rows (codes ")" ∷ s)) false
unfolding state_table_text state_rows_text
state_spelled state = behind opened (behind (state_rows state.table.rows) closed)

state_is : (state : VState) → IsWrittenState state → IsStateTable (columns_of state) state.table
    → IsStateTableText (state_table_text state) state.table
state_is state w all =
    let e = all_found (state_spelled state) in
    let tokens : text_tokens lexis (state_table_text state)
    ≡ codes "(" ∷ rows_front state_row_front state.table.rows (codes ")" ∷ []) =
    ap (λ (p : List (List ℕ) × Bool). p.0) e in
    let reads = state_table_read (columns_of state) state.table [] w.columns w.rows
    (recursion_from_All (λ (row : VStateRow). length row.inputs ≡ columns_of state) state.table.rows all)
    (recursion_from_All HasOneEdge state.table.rows w.edges) in
    record {
      lexes = none_if (lexical_place lexis (state_table_text state)) (ap (λ (p : List (List ℕ) × Bool). p.1) e);
      takes = subst (λ (s : List (List ℕ)). Takes state_table s state.table []) (sym tokens) reads.taken;
    }

-- the table of a state reads back
pub state_table_read_back : (state : VState) → IsWrittenState state → IsStateTable (columns_of state) state.table
    → StateTableReadBack state
state_table_read_back state w all =
    let h = state_is state w all in
    record {
      text = h;
      only = λ other k. same_value state_table (text_tokens lexis (state_table_text state)) other state.table k.takes
          h.takes;
    }
