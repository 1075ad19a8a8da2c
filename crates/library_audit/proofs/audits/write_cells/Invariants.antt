use Rattle.std.proofs.Common.{take, ◌≡◌}
use Rattle.std.specs.List.{flat_map, list_any}
use Rattle.text_io.specs.declared.slots.OutSlot.TheVariants.{Report}
use Rattle.text_io.specs.Desk.{wrote}
use Rattle.library_audit.proofs.PrintedCells.{cell_text, cell_differs}
use Rattle.library_audit.proofs.audits.write_cells.Given as goal

abbrev pub invariant-loop-cell : goal.invariant-loop-cell
invariant-loop-cell g l = record {
  written : g.D.Desk.state l.desk ≡ wrote (g.D.Desk.state l.initial.desk) Report (flat_map (cell_text l.files.named.models) (take l.cell-index l.files.cells));
  differ : l.some_differ ≡ list_any (cell_differs l.files.named.models) (take l.cell-index l.files.cells);
  kept : g.D.Desk.faults l.desk ≡ g.D.Desk.faults l.initial.desk;
}
