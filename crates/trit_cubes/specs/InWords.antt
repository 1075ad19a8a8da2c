-- Sets of points as words: the upper half of a word's bits has the points with 1 at the first place.
use Rattle.std.specs.Prelude.{◌==◌, ℕ, zero, suc, ◌/◌, ◌%◌, ◌^◌, Bool, true, false, not, bit_and, List, [], ◌∷◌, filter}
use Rattle.std.specs.List.{list_any}
use Rattle.trit_cubes.specs.declared.trits.Trit.{Trit}
use Rattle.trit_cubes.specs.declared.trits.Trit.TheVariants.{Zero, One, Unknown}
use Rattle.trit_cubes.specs.Prime.{is_inside, prime_list}

-- the set over n places that a word tells
abbrev pub in_word : ℕ → ℕ → List Bool → Bool
in_word zero word p = word % 2 == 1
in_word (suc n) word [] = false
in_word (suc n) word (false ∷ p) = in_word n (word % 2 ^ 2 ^ n) p
in_word (suc n) word (true ∷ p) = in_word n (word / 2 ^ 2 ^ n) p

-- the word of the points over n places that are in the set whatever the first of n + 1 places has of the trit's values
abbrev pub word_part : ℕ → Trit → ℕ → ℕ
word_part n Zero word = word % 2 ^ 2 ^ n
word_part n One word = word / 2 ^ 2 ^ n
word_part n Unknown word = bit_and (word % 2 ^ 2 ^ n) (word / 2 ^ 2 ^ n)

-- whether the cube is inside one of the sets that these words tell
abbrev pub in_one : ℕ → List ℕ → List Trit → Bool
in_one n words cube = list_any (λ word. is_inside (in_word n word) cube) words

-- the primes of a word's set that are inside none of the sets of other words
abbrev pub primes_outside : ℕ → ℕ → List ℕ → List (List Trit)
primes_outside n word others = filter (λ cube. not (in_one n others cube)) (prime_list n (in_word n word))
