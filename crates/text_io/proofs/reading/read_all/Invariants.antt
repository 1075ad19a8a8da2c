use Rattle.std.proofs.Common.{◌≡◌, ◌-◌, ◌≤◌, length, take, IfSome}
use Rattle.text_io.specs.Desk.{took}
use Rattle.text_io.proofs.reading.read_all.Given as goal

abbrev pub invariant-loop-piece : goal.invariant-loop-piece
invariant-loop-piece g l = record {
  within : length l.bytes.items ≤ l.limit;
  taken : g.D.Desk.state l.desk ≡ took (g.D.Desk.state l.initial.desk) l.slot (length l.bytes.items);
  front : IfSome ((g.D.Desk.state l.initial.desk).left l.slot) (λ left. (l.bytes.items ≡ take (length l.bytes.items) left) × (length l.bytes.items ≤ length left));
  kept : g.D.Desk.faults l.desk ≡ g.D.Desk.faults l.initial.desk;
  whole_piece : length l.piece ≡ 4096;
}

abbrev pub decreases-loop-piece : goal.decreases-loop-piece
decreases-loop-piece g l = l.limit - length l.bytes.items
