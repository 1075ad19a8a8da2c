use Rattle.trit_cubes.proofs.HalvesLemmas.{primes-short, primes-joined}
use Rattle.trit_cubes.proofs.merging.merge_primes.Goals as goal

pub merge-requires-clause-zero_short : goal.merge-requires-clause-zero_short
merge-requires-clause-zero_short c = primes-short c.requires.0 c.requires.1 _ c.requires.4.zero_primes c.requires.3

pub merge-requires-clause-one_short : goal.merge-requires-clause-one_short
merge-requires-clause-one_short c = primes-short c.requires.0 c.requires.2 _ c.requires.4.one_primes c.requires.3

pub merge-requires-clause-both_short : goal.merge-requires-clause-both_short
merge-requires-clause-both_short c = primes-short c.requires.0 _ _ c.requires.4.both_primes c.requires.3

pub returns : goal.returns
returns c = λ n f g h. primes-joined n f g _ _ _ _ h c.in_ok-found.ensures
