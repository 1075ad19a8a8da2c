use Rattle.std.proofs.Common.{◌≡◌, drop}
use Rattle.std.specs.List.{list_all}
use Rattle.cell_machine.specs.Places.{entries_at}
use Rattle.cell_machine.specs.CellTrace.{is_quiet}
use Rattle.cell_machine.specs.KeptConditions.{AreConditions}
use Rattle.cell_machine.proofs.delays.all_are_quiet.Given as goal

-- the rest is quiet exactly where all are
abbrev pub invariant-loop-i : goal.invariant-loop-i
invariant-loop-i l = record {
  rest :
      list_all (is_quiet l.arcs.cell.now.pins l.arcs.inputs.now l.arc) (drop l.i (entries_at l.arcs.cell.now.arcs l.places))
      ≡ list_all (is_quiet l.arcs.cell.now.pins l.arcs.inputs.now l.arc) (entries_at l.arcs.cell.now.arcs l.places);
  kept : AreConditions l.arcs.cell.now.pins l.arcs.inputs.now l.arcs.cell.now.arcs l.kept;
}
