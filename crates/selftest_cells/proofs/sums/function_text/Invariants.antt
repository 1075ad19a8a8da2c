use Rattle.std.proofs.Common.{◌≡◌}
use Rattle.selftest_cells.specs.Sums.{bits_from, sum_below}
use Rattle.selftest_cells.proofs.sums.function_text.Given as goal

abbrev pub invariant-loop-point : goal.invariant-loop-point
invariant-loop-point l = (l.bits ≡ bits_from l.number l.point) × (l.sum.items ≡ sum_below l.number l.point)
