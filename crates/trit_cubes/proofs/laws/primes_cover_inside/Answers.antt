use Rattle.std.proofs.Common.{sym, ◌∙◌}
use Rattle.trit_cubes.proofs.InsideLemmas.{is_inside-fillings, fillings-is_inside}
use Rattle.trit_cubes.proofs.SplitLemmas.{any_covers-primes}
use Rattle.trit_cubes.proofs.laws.primes_cover_inside.Goals as goal

pub returns : goal.returns
returns c = λ n set ts long. (
  λ inside. any_covers-primes n set ts long ∙ fillings-is_inside set ts inside,
  λ covered. is_inside-fillings set ts (sym (any_covers-primes n set ts long) ∙ covered),
)
