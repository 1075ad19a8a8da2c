-- A list of trits as two words: which places are fixed, and their values, place i at weight 2 to the power i.
use Rattle.std.specs.Prelude.{ℕ, zero, suc, ◌+◌, ◌*◌, ◌/◌, ◌%◌, List, [], ◌∷◌}
use Rattle.trit_cubes.specs.declared.trits.Trit.{Trit}
use Rattle.trit_cubes.specs.declared.trits.Trit.TheVariants.{Zero, One, Unknown}

-- 1 where the place is fixed
abbrev pub fixed_bit : Trit → ℕ
fixed_bit Unknown = 0
fixed_bit _ = 1

-- 1 where the place is fixed to 1
abbrev pub value_bit : Trit → ℕ
value_bit One = 1
value_bit _ = 0

-- the word of the places that are fixed
abbrev pub fixed_word : List Trit → ℕ
fixed_word [] = 0
fixed_word (t ∷ ts) = fixed_bit t + 2 * fixed_word ts

-- the word of the values, 0 at free places
abbrev pub value_word : List Trit → ℕ
value_word [] = 0
value_word (t ∷ ts) = value_bit t + 2 * value_word ts

-- the trit with these two bits
abbrev pub trit_of_bits : ℕ → ℕ → Trit
trit_of_bits zero _ = Unknown
trit_of_bits (suc _) zero = Zero
trit_of_bits (suc _) (suc _) = One

-- the first n places of these two words
abbrev pub trits_of : ℕ → ℕ → ℕ → List Trit
trits_of zero _ _ = []
trits_of (suc n) fixed values = trit_of_bits (fixed % 2) (values % 2) ∷ trits_of n (fixed / 2) (values / 2)
