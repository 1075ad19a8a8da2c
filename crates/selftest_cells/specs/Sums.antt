-- The function texts of three inputs A, B and C: a sum of products, one for each point at which the function is 1. A number below
-- 256 has a bit for each point; A has weight 1 in the number of a point, B 2 and C 4.
use Rattle.std.specs.Prelude.{ℕ, zero, suc, ◌/◌, ◌%◌, ◌==◌, List, [], ◌∷◌, ◌++◌, if◌then◌else◌}

-- a name, or its inverse
abbrev pub literal : ℕ → ℕ → List ℕ
literal name bit = if bit == 1 then name ∷ [] else 33 ∷ name ∷ []

-- the product that is 1 at the point with this number alone
unfoldable pub product : ℕ → List ℕ
product i = literal 65 (i % 2) ++ 42 ∷ literal 66 ((i / 2) % 2) ++ 42 ∷ literal 67 ((i / 4) % 2)

-- the bits of a number from this one on
abbrev pub bits_from : ℕ → ℕ → ℕ
bits_from number zero = number
bits_from number (suc i) = bits_from number i / 2

-- a sum with one more product
abbrev pub plus : List ℕ → List ℕ → List ℕ
plus [] product = product
plus (b ∷ bs) product = (b ∷ bs) ++ 43 ∷ product

-- the sum of the products of the points below this one
abbrev pub sum_below : ℕ → ℕ → List ℕ
sum_below number zero = []
sum_below number (suc i) = if bits_from number i % 2 == 1 then plus (sum_below number i) (product i) else sum_below number i

-- a sum without a product is 0
abbrev pub or_zero : List ℕ → List ℕ
or_zero [] = 48 ∷ []
or_zero (b ∷ bs) = b ∷ bs

unfoldable pub function_text : ℕ → List ℕ
function_text number = or_zero (sum_below number 8)
