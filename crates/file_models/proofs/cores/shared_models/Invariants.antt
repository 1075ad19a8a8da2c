use Rattle.std.proofs.Common.{◌≡◌, ◌++◌, length, reverse}
use Rattle.file_models.proofs.cores.shared_models.Given as goal

abbrev pub invariant-loop-model : goal.invariant-loop-model
invariant-loop-model g l = l.left ++ reverse l.shared.items ≡ l.fn.models

abbrev pub decreases-loop-model : goal.decreases-loop-model
decreases-loop-model g l = length l.left
