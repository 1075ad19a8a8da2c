use Rattle.std.proofs.Common.{◌∙◌, true, false, [], ◌∷◌, arith}
use Rattle.trit_cubes.specs.Sets.{has}
use Rattle.trit_cubes.proofs.tests.primes_merge.Goals as goal

pub merge_primes-requires : goal.merge_primes-requires
merge_primes-requires g c = (
  1,
  has (false ∷ true ∷ []),
  has (false ∷ true ∷ []),
  omega arith,
  record {
    zero_primes = c.deref.ensures.value ∙ c.in_ok-one.ensures;
    one_primes = c.deref-2.ensures.value ∙ c.in_ok-one.ensures;
    both_primes = c.deref-3.ensures.value ∙ c.in_ok-one.ensures;
  },
)

pub merge_primes-requires-2 : goal.merge_primes-requires-2
merge_primes-requires-2 g c = (
  1,
  has (true ∷ false ∷ []),
  has (false ∷ true ∷ []),
  omega arith,
  record {
    zero_primes = c.deref-4.ensures.value ∙ c.in_ok-zero.ensures;
    one_primes = c.deref-5.ensures.value ∙ c.in_ok-one.ensures;
    both_primes = c.deref-6.ensures.value ∙ c.in_ok-neither.ensures;
  },
)
