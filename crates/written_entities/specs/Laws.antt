-- What is written reads back: the tables of an architecture's constants, and whole entities. (IEEE 1076.4-2000, the VITAL table
-- types and symbols; IEEE 1076-1993, 7.3.2, aggregates; the layout is this project's.)
use Rattle.std.specs.Prelude.{◌≡◌, ℕ, ◌≤◌, List, [], ◌++◌, length, None, codes}
use Rattle.std.specs.List.{flat_map}
use Rattle.grammar_rules.specs.Rule.{Takes}
use Rattle.vital_models.specs.declared.table.TruthTable.{TruthTable}
use Rattle.vital_models.specs.declared.table.VStateTable.{VStateTable}
use Rattle.vital_models.specs.declared.model.VState.{VState}
use Rattle.vital_models.specs.declared.model.VEntity.{VEntity}
use Rattle.vital_models.specs.Sound.{IsTruthTable, IsStateTable, columns_of}
use Rattle.vhdl_grammar.specs.VhdlTables.{truth_table, state_table}
use Rattle.vhdl_tokens.specs.Tokens.{lexis}
use Rattle.grammar_reader.specs.Texts.{text_tokens, lexical_place}
use Rattle.vhdl_grammar.specs.VhdlText.{IsVhdlText, vhdl_text}
use Rattle.vhdl_grammar.specs.WellFormed.{IsWrittenState, AreWellFormed}
use Rattle.vhdl_writer.specs.Tables.{truth_rows_text, state_rows_text}
use Rattle.vhdl_writer.specs.Entity.{entity_text}
use Rattle.grammar_reader.specs.ReadBack.{ReadsBack}

-- the aggregates that constants are given
unfoldable pub truth_table_text : TruthTable → List ℕ
truth_table_text table = codes "(" ++ (truth_rows_text table ++ codes ")")

unfoldable pub state_table_text : VState → List ℕ
state_table_text state = codes "(" ++ (state_rows_text state ++ codes ")")

-- The bytes are the text of this truth table alone: they are tokens, without a lexical fault, that the grammar of truth tables
-- takes.
pub record IsTruthTableText (bytes : List ℕ) (table : TruthTable) : Type 0 where
  pub lexes : lexical_place lexis bytes ≡ None
  pub takes : Takes truth_table (text_tokens lexis bytes) table []

-- the same, of the table of a state
pub record IsStateTableText (bytes : List ℕ) (table : VStateTable) : Type 0 where
  pub lexes : lexical_place lexis bytes ≡ None
  pub takes : Takes state_table (text_tokens lexis bytes) table []

-- The text of a truth table reads as this table, and as no other.
pub record TruthTableReadBack (table : TruthTable) : Type 0 where
  pub text : IsTruthTableText (truth_table_text table) table
  pub only : (other : TruthTable) → IsTruthTableText (truth_table_text table) other → other ≡ table

-- The text of the table of a state reads as this table, and as no other.
pub record StateTableReadBack (state : VState) : Type 0 where
  pub text : IsStateTableText (state_table_text state) state.table
  pub only : (other : VStateTable) → IsStateTableText (state_table_text state) other → other ≡ state.table

-- a truth table of rows that are equally long reads back from what is written of it
abbrev pub WrittenTruthTablesReadBack : Type 0
WrittenTruthTablesReadBack =
    (columns : ℕ) (table : TruthTable) → 1 ≤ columns → 1 ≤ length table.rows → IsTruthTable columns table
    → TruthTableReadBack table

-- the table of a state that a text can tell reads back from what is written of it
abbrev pub WrittenStateTablesReadBack : Type 0
WrittenStateTablesReadBack =
    (state : VState) → IsWrittenState state → IsStateTable (columns_of state) state.table → StateTableReadBack state

-- the text of entities, each with the packages that it uses
unfoldable pub entities_text : List VEntity → List ℕ
entities_text es = flat_map entity_text es

-- entities that are well formed read back from what is written of them
abbrev pub WrittenEntitiesReadBack : Type 0
WrittenEntitiesReadBack = (es : List VEntity) → AreWellFormed es → ReadsBack vhdl_text IsVhdlText (entities_text es) es
