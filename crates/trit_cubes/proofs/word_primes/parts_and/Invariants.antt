use Rattle.std.proofs.Common.{◌≡◌, map, take, length}
use Rattle.trit_cubes.specs.InWords.{word_part}
use Rattle.trit_cubes.proofs.word_primes.parts_and.Given as goal

abbrev pub invariant-loop-i : goal.invariant-loop-i
invariant-loop-i l = (length l.parts ≡ 6) × (take l.i l.parts ≡ map (word_part l.places l.first) (take l.i l.sets))
