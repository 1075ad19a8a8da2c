use Rattle.std.proofs.Common.{◌≡◌, ◌++◌, drop}
use Rattle.sectioned_texts.proofs.scope.with_names.Given as goal

abbrev pub invariant-loop-name : goal.invariant-loop-name
invariant-loop-name g l = l.all ++ drop l.name-index l.more ≡ l.initial.all ++ l.more
