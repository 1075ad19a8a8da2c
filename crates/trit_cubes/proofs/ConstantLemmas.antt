-- The primes of all points and of none, the cube of free places, and tables with one value.
use Rattle.std.proofs.Common.{◌≡◌, ℕ, zero, suc, ◌^◌, ◌<◌, Bool, true, false, List, [], ◌∷◌, length, replicate, slice_index_or}
use Rattle.std.proofs.Common.{refl, sym, ◌∙◌, ap, arith}
use Rattle.trit_cubes.specs.declared.trits.Trit.TheVariants.{Unknown}
use Rattle.trit_cubes.specs.Filling.{number, covers}
use Rattle.trit_cubes.specs.Sets.{has}
use Rattle.trit_cubes.specs.Prime.{prime_list, merged}
use Rattle.trit_cubes.specs.Words.{fixed_word, value_word, trits_of}
use Rattle.trit_cubes.proofs.PointLemmas.{number-below}
use Rattle.trit_cubes.proofs.SplitLemmas.{prime_list-merged, prime_list-same}

-- the words of free places are 0
pub free-places : (n : ℕ) → trits_of n 0 0 ≡ replicate n Unknown
free-places zero = refl
free-places (suc n) = ap (λ ts. Unknown ∷ ts) (free-places n)

pub free-fixed : (n : ℕ) → fixed_word (replicate n Unknown) ≡ 0
free-fixed zero = refl
free-fixed (suc n) = omega (arith, free-fixed n)

pub free-values : (n : ℕ) → value_word (replicate n Unknown) ≡ 0
free-values zero = refl
free-values (suc n) = omega (arith, free-values n)

free-covers : (n : ℕ) → covers (replicate n Unknown) (replicate n Unknown) ≡ true
free-covers zero = refl
free-covers (suc n) = free-covers n

-- the empty set has no prime
pub primes-of-none : (n : ℕ) → prime_list n (λ _. false) ≡ []
primes-of-none zero = refl
primes-of-none (suc n) = sym (prime_list-merged n (λ _. false)) ∙ ap (λ cubes. merged cubes cubes cubes) (primes-of-none n)

-- the set of all points has one, the cube of free places
pub primes-of-all : (n : ℕ) → prime_list n (λ _. true) ≡ replicate n Unknown ∷ []
primes-of-all zero = refl
primes-of-all (suc n) =
    sym (prime_list-merged n (λ _. true)) ∙ ap (λ cubes. merged cubes cubes cubes) (primes-of-all n) ∙ rw (free-covers n) refl

-- the primes of a table whose entries are all the same
pub primes-of-entries : (n : ℕ) (set : List Bool) (all : Bool)
    → length set ≡ 2 ^ n → ((k : ℕ) → k < length set → slice_index_or set k false ≡ all)
    → prime_list n (λ _. all) ≡ prime_list n (has set)
primes-of-entries n set all long same =
    prime_list-same n (λ _. all) (has set) (λ p e. sym (same (number p) (rw (long, ← e) (number-below p))))

-- a table of more than one entry is one over some places
pub some-places : (n l : ℕ) → l ≡ 2 ^ n → 1 < l → n ≡ 0 → ⊥
some-places zero l e more none = omega (arith, e, more)
some-places (suc n) l e more none = omega (arith, none)
