use Rattle.std.proofs.Common.{◌≡◌, ◌++◌, List, take, drop, length}
use Rattle.cell_machine.specs.declared.changes.Change.{Change}
use Rattle.cell_machine.specs.Each.{each}
use Rattle.driven_traces.specs.DrivenStands.{numbers, next_shown}
use Rattle.driven_traces.proofs.driven_sim.show_all.Given as goal

-- what is shown so far and the steps of the rest give the steps of all
abbrev pub invariant-loop-number : goal.invariant-loop-number
invariant-loop-number g l = record {
  whole :
      (h : List Change) → g.S.CellSim.stands l.core h
      → take l.number l.shown
      ++ each (λ number was. next_shown l.driver l.input ((g.S.CellSim.machine l.core).line h).values was.value number) (drop l.number (numbers l.driver)) (drop l.number l.shown)
      ≡ each (λ number was. next_shown l.driver l.input ((g.S.CellSim.machine l.core).line h).values was.value number) (numbers l.driver) l.initial.shown;
  len : length l.shown ≡ length l.initial.shown;
}
