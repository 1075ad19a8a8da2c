use Rattle.std.proofs.Common.{length, ◌-◌, ◌≤◌}
use Rattle.liberty_text.specs.Quiet.{AreBlank}
use Rattle.liberty_text.proofs.gaps.fours.Given as goal

abbrev pub invariant-loop-count : goal.invariant-loop-count
invariant-loop-count l = record {
  within : l.count ≤ length l.bytes;
  blank : AreBlank l.bytes l.count;
}

abbrev pub decreases-loop-count : goal.decreases-loop-count
decreases-loop-count l = length l.bytes - l.count
