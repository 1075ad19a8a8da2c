use Rattle.std.proofs.Common.{◌≡◌, length}
use Rattle.bool_functions.specs.Machine.{settled}
use Rattle.bool_functions.proofs.reader.settle.Given as goal

abbrev pub invariant-loop-top : goal.invariant-loop-top
invariant-loop-top l = settled l.least l.pile l.whole ≡ settled l.least l.initial.pile l.initial.whole

abbrev pub decreases-loop-top : goal.decreases-loop-top
decreases-loop-top l = length l.pile
