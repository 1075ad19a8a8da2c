use Rattle.std.proofs.Common.{◌≡◌, replicate, None}
use Rattle.model_files.proofs.known.nothing_known.Given as goal

-- of the models so far nothing is known
abbrev pub invariant-loop : goal.invariant-loop
invariant-loop g l = l.known.items ≡ replicate l.counter None
