use Rattle.std.proofs.Common.{◌≡◌, take, length}
use Rattle.row_masks.proofs.column_values.write_news.Given as goal

-- the values of the columns so far stand in front
abbrev pub invariant-loop-place : goal.invariant-loop-place
invariant-loop-place g l = record {
  front : take l.place l.room ≡ take l.place (g.C.ColumnValues.news l.values);
  len : length l.room ≡ length l.initial.room;
}
