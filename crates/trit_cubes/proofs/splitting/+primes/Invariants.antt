use Rattle.trit_cubes.proofs.splitting.+primes.Given as goal

abbrev pub decreases-primes : goal.decreases-primes
decreases-primes l = l.n
