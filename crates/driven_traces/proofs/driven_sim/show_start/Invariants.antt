use Rattle.std.proofs.Common.{◌≡◌, List, map, length}
use Rattle.std.specs.List.{range_with_len}
use Rattle.cell_machine.specs.declared.changes.Change.{Change}
use Rattle.driven_traces.specs.DrivenStands.{first_shown}
use Rattle.driven_traces.proofs.driven_sim.show_start.Given as goal

-- what the driven outputs so far show
abbrev pub invariant-loop-number : goal.invariant-loop-number
invariant-loop-number g l = record {
  whole :
      (h : List Change) → g.S.CellSim.stands l.core h
      → l.shown ≡ map (first_shown l.driver ((g.S.CellSim.machine l.core).line h).values) (range_with_len 0 l.number);
  len : length l.shown ≡ l.number;
}
