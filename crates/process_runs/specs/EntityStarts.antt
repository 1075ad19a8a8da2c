-- What is known of an entity before any change.
use Rattle.std.specs.Prelude.{◌≡◌, [], map}
use Rattle.vital_models.specs.declared.model.VEntity.{VEntity}
use Rattle.process_runs.specs.declared.entity_start.EntityStart.{EntityStart}
use Rattle.process_runs.specs.EntityIndexed.{IsEntityIndex}
use Rattle.process_runs.specs.KeptConditions.{condition_values}
use Rattle.process_runs.specs.EntitySteps.{start_state, output_shown}

-- this is where its parts are found, what the values of its conditions are, and what its outputs show where nothing changed yet
pub record IsEntityStart (e : VEntity) (start : EntityStart) : Type 0 where
  pub indexed : IsEntityIndex e start.index
  pub conditions_are : start.conditions ≡ condition_values e (start_state e).inputs
  pub shown_are : start.shown ≡ map (output_shown e []) e.outputs
