use Rattle.std.proofs.Common.{◌≡◌, take, length, replicate, false}
use Rattle.run_parts.proofs.checks.clear.Given as goal

-- those so far are cleared
abbrev pub invariant-loop-i : goal.invariant-loop-i
invariant-loop-i l = record {
  front : take l.i l.reports ≡ replicate l.i false;
  len : length l.reports ≡ length l.initial.reports;
}
