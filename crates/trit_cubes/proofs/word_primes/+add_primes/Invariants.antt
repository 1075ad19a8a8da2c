use Rattle.trit_cubes.proofs.word_primes.+add_primes.Given as goal

abbrev pub decreases-add_primes : goal.decreases-add_primes
decreases-add_primes l = l.left
