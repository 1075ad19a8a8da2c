-- Looking up tables. (IEEE 1076.4-2000, VitalTruthTable and VitalStateTable.)
use Rattle.std.specs.Prelude.{Bool, ◌&&◌, List}
use Rattle.trit_cubes.specs.declared.trits.Trit.{Trit}
use Rattle.trit_cubes.specs.declared.trits.Trit.TheVariants.{Unknown}
use Rattle.udp_tables.specs.Tables.{first, columns_match}
use Rattle.vital_tables.specs.declared.table.TruthRow.{TruthRow}
use Rattle.vital_tables.specs.declared.table.VStateRow.{VStateRow}
use Rattle.vital_tables.specs.Symbols.{trits_match, level_matches, symbol_matches, next_of}

-- whether a row of a truth table matches these inputs
abbrev pub truth_matches : List Trit → TruthRow → Bool
truth_matches inputs row = columns_match level_matches row.inputs inputs inputs

-- what a truth table gives: the result of the first row that matches, X without one
abbrev pub lookup_truth : List TruthRow → List Trit → Trit
lookup_truth rows inputs = first (truth_matches inputs) (λ row. row.result) rows Unknown

-- whether a row of a state table matches columns that had these values before and have those now, in this state
abbrev pub state_matches : List Trit → List Trit → Trit → VStateRow → Bool
state_matches before after state row = columns_match symbol_matches row.inputs before after && trits_match row.state state

-- what a row gives in this state
abbrev pub row_next : Trit → VStateRow → Trit
row_next state row = next_of state row.result

-- the next state that a state table gives: that of the first row that matches, X without one
abbrev pub lookup_state : List VStateRow → List Trit → List Trit → Trit → Trit
lookup_state rows before after state = first (state_matches before after state) (row_next state) rows Unknown
