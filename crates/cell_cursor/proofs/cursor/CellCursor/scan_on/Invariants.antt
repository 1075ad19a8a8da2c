use Rattle.std.proofs.Common.{◌≡◌, ℕ, ◌≤◌, List, length}
use Rattle.cell_cursor.specs.declared.item.LibraryItem.{LibraryItem}
use Rattle.cell_cursor.specs.Progress.{taken_by}
use Rattle.cell_cursor.specs.Stands.{Goes}
use Rattle.cell_cursor.proofs.cursor.CellCursor.scan_on.Given as goal

abbrev pub invariant-loop-self : goal.invariant-loop-self
invariant-loop-self l = record {
  limit : l.self.limit ≡ l.initial.self.limit;
  answer : l.self.answer ≡ l.initial.self.answer;
  waiting : l.self.waiting.items ≡ l.initial.self.waiting.items;
  goes : (bytes : List ℕ) (items : List LibraryItem) → Goes l.initial.self bytes items → Goes l.self bytes items;
  taken : taken_by l.self ≡ taken_by l.initial.self;
  shorter : length l.self.piece ≤ length l.initial.self.piece;
}

abbrev pub decreases-loop-self : goal.decreases-loop-self
decreases-loop-self l = length l.self.piece
