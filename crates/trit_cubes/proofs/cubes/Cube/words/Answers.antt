use Rattle.std.proofs.Common.{arith}
use Rattle.trit_cubes.proofs.WordLemmas.{fixed_word-below, value_word-below}
use Rattle.trit_cubes.proofs.cubes.Cube.words.Goals as goal

pub returns-clause-fixed_below : goal.returns-clause-fixed_below
returns-clause-fixed_below c = rw c.self.invariant.2 (fixed_word-below _ (omega (arith, c.self.invariant.0, c.self.invariant.1)))

pub returns-clause-values_below : goal.returns-clause-values_below
returns-clause-values_below c = rw c.self.invariant.3 (value_word-below _ (omega (arith, c.self.invariant.0, c.self.invariant.1)))
