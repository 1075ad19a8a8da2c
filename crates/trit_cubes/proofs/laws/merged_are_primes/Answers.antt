use Rattle.trit_cubes.specs.Sets.{joined}
use Rattle.trit_cubes.proofs.SplitLemmas.{prime_list-merged}
use Rattle.trit_cubes.proofs.laws.merged_are_primes.Goals as goal

pub returns : goal.returns
returns c = λ n f g. prime_list-merged n (joined f g)
