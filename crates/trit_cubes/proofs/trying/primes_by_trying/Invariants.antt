use Rattle.std.proofs.Common.{◌≡◌, ◌++◌, drop}
use Rattle.std.specs.List.{filter}
use Rattle.trit_cubes.specs.Sets.{has}
use Rattle.trit_cubes.specs.Prime.{is_prime, prime_list}
use Rattle.trit_cubes.proofs.trying.primes_by_trying.Given as goal

abbrev pub invariant-loop-cube : goal.invariant-loop-cube
invariant-loop-cube l = l.found.items ++ filter (is_prime (has l.set)) (drop l.cube-index l.cube-items) ≡ prime_list l.n (has l.set)
