use Rattle.trit_cubes.proofs.OrderLemmas.{primes-one_list}
use Rattle.trit_cubes.proofs.laws.primes_are_one_list.Goals as goal

pub returns : goal.returns
returns c = primes-one_list
