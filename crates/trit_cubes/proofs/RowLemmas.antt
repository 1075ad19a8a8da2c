-- The definitions at small sets, by computing.
use Rattle.std.proofs.Common.{◌≡◌, true, false, [], ◌∷◌, refl}
use Rattle.trit_cubes.specs.declared.trits.Trit.TheVariants.{Zero, One, Unknown}
use Rattle.trit_cubes.specs.Sets.{has}
use Rattle.trit_cubes.specs.Prime.{prime_list}

-- the multiplexer of places 0 and 2 by place 1, with the cube that no product of it names
primes-multiplexer : prime_list 3 (has (false ∷ true ∷ false ∷ false ∷ false ∷ true ∷ true ∷ true ∷ []))
    ≡ (One ∷ Zero ∷ Unknown ∷ []) ∷ (One ∷ Unknown ∷ One ∷ []) ∷ (Unknown ∷ One ∷ One ∷ []) ∷ []
primes-multiplexer = refl
