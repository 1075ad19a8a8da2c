-- What a simulator of an entity knows of it.
use Rattle.std.specs.Prelude.{◌≡◌}
use Rattle.vital_models.specs.declared.model.VEntity.{VEntity}
use Rattle.process_runs.specs.declared.entity_index.EntityIndex.{EntityIndex}
use Rattle.run_parts.specs.InputNumbers.{input_numbers}
use Rattle.process_runs.specs.TableRows.{entity_rows}
use Rattle.process_runs.specs.KeptConditions.{AreFed}

-- this is what is known of the rows of its tables, the numbers of its ports among the inputs, and the conditions that its inputs
-- feed
pub record IsEntityIndex (e : VEntity) (index : EntityIndex) : Type 0 where
  pub tabled : index.rows ≡ entity_rows e
  pub numbered : index.numbers ≡ input_numbers e.ports
  pub feeding : AreFed e.ports e.conditions index.fed
