use Rattle.trit_cubes.proofs.trying.+all_cubes.Given as goal

abbrev pub decreases-all_cubes : goal.decreases-all_cubes
decreases-all_cubes l = l.n
