use Rattle.std.proofs.Common.{◌+◌, ◌≤◌, length}
use Rattle.cell_cursor.specs.Reached.{ReadsOn}
use Rattle.cell_cursor.proofs.OpenParts.{Walked}
use Rattle.cell_cursor.proofs.statements.read_statements.Given as goal

abbrev pub invariant-loop-turn : goal.invariant-loop-turn
invariant-loop-turn l = record {
  left : l._turn + length l.cursor ≤ l._turn-end;
  went : ReadsOn l.initial.items.items l.initial.cursor l.items.items l.cursor;
  walked : Walked l.initial.cursor l.cursor;
}
