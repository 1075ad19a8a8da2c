-- What is known of the rows of an entity's tables, by which they are looked up: their words and their masks.
use Rattle.std.specs.Prelude.{ℕ, List, [], map, length}
use Rattle.vital_models.specs.declared.table.TruthRow.{TruthRow}
use Rattle.vital_models.specs.declared.model.VState.{VState}
use Rattle.vital_models.specs.declared.model.VTruth.{VTruth}
use Rattle.vital_models.specs.declared.model.OutValue.{OutValue}
use Rattle.vital_models.specs.declared.model.OutValue.TheVariants as value
use Rattle.vital_models.specs.declared.model.VOutput.{VOutput}
use Rattle.vital_models.specs.declared.model.VEntity.{VEntity}
use Rattle.vital_models.specs.RowWords.{truth_words, state_words}
use Rattle.vital_models.specs.Sound.{columns_of}
use Rattle.row_masks.specs.LookUps.{truth_masks, state_masks}
use Rattle.process_runs.specs.EntityRooms.{source_count}
use Rattle.process_runs.specs.declared.table_rows.TableRows.{TableRows}
use Rattle.process_runs.specs.declared.entity_rows.EntityRows.{EntityRows}

-- the rows of an output's table; a constant has none
abbrev pub value_rows : OutValue → List TruthRow
value_rows (value.Constant one) = []
value_rows (value.Table table sources) = table.rows

-- what is known of the rows of a truth table of so many columns
abbrev pub truth_rows : ℕ → List TruthRow → TableRows
truth_rows columns rows = record { words = map truth_words rows; masks = truth_masks columns rows }

-- what is known of the rows of a state's table, of a condition's and of the one that gives an output its value
abbrev pub rows_of_state : VState → TableRows
rows_of_state state =
    record { words = map state_words state.table.rows; masks = state_masks (columns_of state) state.table.rows }

abbrev pub rows_of_truth : VTruth → TableRows
rows_of_truth truth = truth_rows (length truth.inputs) truth.table.rows

abbrev pub rows_of_value : OutValue → TableRows
rows_of_value value = truth_rows (source_count value) (value_rows value)

-- the same of all tables of an entity
abbrev pub entity_rows : VEntity → EntityRows
entity_rows e =
    record {
      states = map rows_of_state e.states;
      conditions = map rows_of_truth e.conditions;
      outputs = map (λ (output : VOutput). rows_of_value output.value) e.outputs;
    }
