use Rattle.std.proofs.Common.{◌≡◌, ◌+◌, ◌≤◌, false, IsTrue}
use Rattle.text_io.specs.declared.slots.InSlot.TheVariants.{Library}
use Rattle.text_io.specs.declared.slots.Slot.TheVariants.{Input}
use Rattle.text_io.specs.Desk.{is_bound}
use Rattle.cell_cursor.specs.Stands.{is_failed}
use Rattle.library_reader.specs.Endings.{library_limit}
use Rattle.library_reader.specs.Folds.{AreBound}
use Rattle.library_reader.specs.Reached.{HasFolded}
use Rattle.library_reader.specs.WrittenItems.{written_for}
use Rattle.library_reader.proofs.items.fold_items.Given as goal

abbrev pub invariant-loop-turn : goal.invariant-loop-turn
invariant-loop-turn g l = record {
  folded : HasFolded (written_for g.W.ItemWriter.for_cell g.W.ItemWriter.for_left_out) (g.F.CellFold.made l.fold) library_limit (g.D.Desk.state l.fn.desk) (g.D.Desk.state l.desk) l.progress l._turn l.cursor;
  library : IsTrue (is_bound (g.D.Desk.state l.desk) (Input Library));
  bound : AreBound (g.D.Desk.state l.desk) g.W.ItemWriter.outputs;
  room : l.progress.accepted + l.progress.refused ≤ l._turn;
  kept : g.D.Desk.faults l.desk ≡ g.D.Desk.faults l.fn.desk;
  unfailed : is_failed l.cursor.answer ≡ false;
}
