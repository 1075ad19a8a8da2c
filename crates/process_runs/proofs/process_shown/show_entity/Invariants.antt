use Rattle.std.proofs.Common.{◌≡◌, ◌++◌, take, drop, length}
use Rattle.cell_machine.specs.Each.{each}
use Rattle.run_parts.specs.KeptDelays.{AreKept}
use Rattle.process_runs.specs.NumberedPaths.{numbered_paths}
use Rattle.process_runs.specs.EntitySteps.{output_step}
use Rattle.process_runs.proofs.process_shown.show_entity.Given as goal

-- what is shown so far and the steps of the rest give the steps of all
abbrev pub invariant-loop-i : goal.invariant-loop-i
invariant-loop-i l = record {
  whole :
      take l.i l.shown
      ++ each (output_step l.values.tables.model.now l.values.inputs.now l.values.states.now l.input) (drop l.i l.values.tables.model.now.outputs) (drop l.i l.shown)
      ≡ each (output_step l.values.tables.model.now l.values.inputs.now l.values.states.now l.input) l.values.tables.model.now.outputs l.initial.shown;
  len : length l.shown ≡ length l.initial.shown;
  kept : AreKept (numbered_paths l.values.tables.model.now l.values.inputs.now) l.delays;
  room : length l.room ≡ length l.initial.room;
}
