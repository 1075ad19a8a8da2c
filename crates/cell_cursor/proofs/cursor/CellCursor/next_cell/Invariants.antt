use Rattle.std.proofs.Common.{◌≡◌, ◌⊎◌, ◌≤◌, ◌+◌, true, false, [], cond}
use Rattle.text_io.specs.Desk.{Rose}
use Rattle.cell_cursor.specs.declared.cursor.Answer.{Answer}
use Rattle.cell_cursor.specs.Progress.{to_do}
use Rattle.cell_cursor.specs.Stands.{is_going, is_failed, Moves, IsSettled}
use Rattle.cell_cursor.proofs.cursor.CellCursor.next_cell.Given as goal

abbrev pub invariant-loop-item : goal.invariant-loop-item
invariant-loop-item g l = record {
  moves : Moves l.initial.self l.self (g.D.Desk.state l.initial.desk) (g.D.Desk.state l.desk) [];
  later : g.D.Desk.faults l.initial.desk ≤ g.D.Desk.faults l.desk;
  settled : (a : Answer) → IsSettled l.initial.self a → IsSettled l.self a × (g.D.Desk.state l.desk ≡ g.D.Desk.state l.initial.desk);
  kept : is_going l.initial.self.answer ≡ false → l.self.answer ≡ l.initial.self.answer;
  clean : is_failed l.self.answer ≡ false → g.D.Desk.faults l.desk ≡ g.D.Desk.faults l.initial.desk;
  empty : is_failed l.self.answer ≡ true → (is_failed l.initial.self.answer ≡ true) ⊎ (l.self.waiting.items ≡ []);
  failed : is_failed l.self.answer ≡ true → (is_failed l.initial.self.answer ≡ true) ⊎ Rose (g.D.Desk.faults l.initial.desk) (g.D.Desk.faults l.desk);
}

abbrev pub decreases-loop-item : goal.decreases-loop-item
decreases-loop-item g l = cond (is_going l.self.answer) (to_do l.self + 1) 0
