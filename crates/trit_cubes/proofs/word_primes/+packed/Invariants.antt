use Rattle.trit_cubes.proofs.word_primes.+packed.Given as goal

abbrev pub decreases-packed : goal.decreases-packed
decreases-packed l = l.left
