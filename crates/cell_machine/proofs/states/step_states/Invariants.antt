use Rattle.std.proofs.Common.{◌≡◌, ◌++◌, take, drop, length}
use Rattle.cell_machine.specs.Each.{each}
use Rattle.cell_machine.specs.CellData.{data_of}
use Rattle.cell_machine.specs.CellTrace.{state_step, named_groups}
use Rattle.cell_machine.proofs.states.step_states.Given as goal

-- the states so far and the steps of the rest give the steps of all
abbrev pub invariant-loop-i : goal.invariant-loop-i
invariant-loop-i l = record {
  whole :
      take l.i l.states
      ++ each (λ g s. state_step l.seen.reported l.cell.pins g l.seen.inputs.now l.seen.from l.seen.change s) (drop l.i (named_groups (data_of l.cell)))
      (drop l.i l.states)
      ≡ each (λ g s. state_step l.seen.reported l.cell.pins g l.seen.inputs.now l.seen.from l.seen.change s) (named_groups (data_of l.cell)) l.initial.states;
  len : length l.states ≡ length l.initial.states;
}
