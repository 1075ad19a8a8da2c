use Rattle.trit_cubes.proofs.SplitLemmas.{prime_list-gives}
use Rattle.trit_cubes.proofs.laws.primes_give_resolution.Goals as goal

pub returns : goal.returns
returns c = prime_list-gives
