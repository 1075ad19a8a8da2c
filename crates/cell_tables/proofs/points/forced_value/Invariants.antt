use Rattle.std.proofs.Common.{◌≡◌, map, take, length}
use Rattle.trit_cubes.specs.Filling.{trit_of}
use Rattle.cell_tables.proofs.points.forced_value.Given as goal

-- the values of the inputs so far stand in front
abbrev pub invariant-loop-i : goal.invariant-loop-i
invariant-loop-i l = record {
  front : take l.i l.trits ≡ map trit_of (take l.i l.point);
  len : length l.trits ≡ 8;
}
