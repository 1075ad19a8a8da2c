use Rattle.std.proofs.Common.{◌≡◌, take, map}
use Rattle.cell_machine.specs.ShownOutputs.{shown_first}
use Rattle.cell_machine.proofs.shown.show_start.Given as goal

-- what the outputs so far show
abbrev pub invariant-loop-i : goal.invariant-loop-i
invariant-loop-i l = l.shown ≡ map (shown_first l.cell.pins l.cell.groups l.inputs l.states) (take l.i l.cell.outputs)
