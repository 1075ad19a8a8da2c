use Rattle.std.proofs.Common.{◌≡◌, ◌-◌, ◌++◌, drop, length}
use Rattle.liberty_text.specs.TextValue.{value_of}
use Rattle.liberty_text.proofs.text.text_value.Given as goal

abbrev pub invariant-loop-at : goal.invariant-loop-at
invariant-loop-at l = l.value ++ value_of (drop l.at l.bytes) ≡ value_of l.bytes

abbrev pub decreases-loop-at : goal.decreases-loop-at
decreases-loop-at l = length l.bytes - l.at
