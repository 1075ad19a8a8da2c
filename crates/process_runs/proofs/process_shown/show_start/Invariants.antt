use Rattle.std.proofs.Common.{◌≡◌, take, length, map}
use Rattle.process_runs.specs.EntitySteps.{output_first}
use Rattle.process_runs.proofs.process_shown.show_start.Given as goal

-- the outputs so far are shown
abbrev pub invariant-loop-i : goal.invariant-loop-i
invariant-loop-i l = record {
  front : l.shown ≡ map (output_first l.values.tables.model.now l.values.inputs.now l.values.states.now) (take l.i l.values.tables.model.now.outputs);
  room : length l.room ≡ length l.initial.room;
}
