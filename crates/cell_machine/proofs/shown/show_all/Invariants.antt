use Rattle.std.proofs.Common.{◌≡◌, ◌++◌, take, drop, length}
use Rattle.cell_machine.specs.Each.{each}
use Rattle.cell_machine.specs.KeptArcs.{AreKeptArcs}
use Rattle.cell_machine.specs.CellData.{data_of}
use Rattle.cell_machine.specs.ShownOutputs.{shown_step}
use Rattle.cell_machine.proofs.shown.show_all.Given as goal

-- what is shown so far and the steps of the rest give the steps of all
abbrev pub invariant-loop-i : goal.invariant-loop-i
invariant-loop-i l = record {
  whole :
      take l.i l.shown
      ++ each (λ o s. shown_step l.cell.pins l.cell.groups l.cell.arcs l.seen.inputs.now l.seen.states.now l.seen.change o s.value)
      (drop l.i l.cell.outputs) (drop l.i l.shown)
      ≡ each (λ o s. shown_step l.cell.pins l.cell.groups l.cell.arcs l.seen.inputs.now l.seen.states.now l.seen.change o s.value) l.cell.outputs
      l.initial.shown;
  len : length l.shown ≡ length l.initial.shown;
  kept : AreKeptArcs (data_of l.cell) l.seen.inputs.now l.kept;
}
