use Rattle.trit_cubes.proofs.SplitLemmas.{prime_list-same}
use Rattle.trit_cubes.proofs.laws.primes_are_of_points.Goals as goal

pub returns : goal.returns
returns c = prime_list-same
