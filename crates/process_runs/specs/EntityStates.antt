-- The state of an entity's simulator.
use Rattle.std.specs.Prelude.{Bool, List, length}
use Rattle.vital_models.specs.declared.model.VEntity.{VEntity}
use Rattle.process_runs.specs.declared.process_run.EntityState.{EntityState}
use Rattle.process_runs.specs.EntitySteps.{IsReady}

-- the run of a state is ready, with the values and the room that the state holds and with these reports
abbrev pub IsStateReady : VEntity → EntityState → List Bool → Type 0
IsStateReady e state reports =
    IsReady e state.run state.conditions reports (length state.earlier) (length state.room)
