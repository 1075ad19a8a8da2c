use Rattle.std.proofs.Common.{◌≡◌, ◌++◌, take, drop, length}
use Rattle.cell_machine.specs.Each.{each}
use Rattle.process_runs.specs.EntitySteps.{next_by}
use Rattle.process_runs.proofs.process_states.step_entity.Given as goal

-- the states so far and the next ones of the rest give the next ones of all
abbrev pub invariant-loop-i : goal.invariant-loop-i
invariant-loop-i l = record {
  whole :
      take l.i l.states
      ++ each (next_by l.tables.model.now l.was l.before l.violation l.inputs) (drop l.i l.tables.model.now.states) (drop l.i l.states)
      ≡ each (next_by l.tables.model.now l.was l.before l.violation l.inputs) l.tables.model.now.states l.initial.states;
  len : length l.states ≡ length l.initial.states;
  earlier : length l.earlier ≡ length l.initial.earlier;
  room : length l.room ≡ length l.initial.room;
}
