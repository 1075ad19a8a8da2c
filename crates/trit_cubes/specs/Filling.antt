-- Lists of trits and the points that fill them. A point is a list of booleans, one for each place.
use Rattle.std.specs.Prelude.{◌≡◌, ℕ, ◌+◌, ◌*◌, Bool, true, false, ◌&&◌, ◌||◌, if◌then◌else◌, List, [], ◌∷◌}
use Rattle.trit_cubes.specs.declared.trits.Trit.{Trit}
use Rattle.trit_cubes.specs.declared.trits.Trit.TheVariants.{Zero, One, Unknown}

-- the value of a point that this trit allows: itself, or any where it is not known
abbrev pub Fits : Trit → Bool → Type 0
Fits Zero b = b ≡ false
Fits One b = b ≡ true
Fits Unknown _ = Unit {0}

-- a point of the same length that is equal to the list at every place that is known (this project's rule for unknowns)
abbrev pub IsFilling : List Trit → List Bool → Type 0
IsFilling [] [] = Unit {0}
IsFilling (t ∷ ts) (b ∷ bs) = Fits t b × IsFilling ts bs
IsFilling _ _ = ⊥

-- 1 for true, 0 for false
abbrev pub bit : Bool → ℕ
bit b = if b then 1 else 0

-- the number of a point, in which place i weighs 2 to the power i
abbrev pub number : List Bool → ℕ
number [] = 0
number (b ∷ bs) = bit b + 2 * number bs

-- the trit of a known value
abbrev pub trit_of : Bool → Trit
trit_of false = Zero
trit_of true = One

-- whether this trit is not known
abbrev pub is_unknown : Trit → Bool
is_unknown Unknown = true
is_unknown _ = false

-- whether two trits are equal
abbrev pub same : Trit → Trit → Bool
same Zero Zero = true
same One One = true
same Unknown Unknown = true
same _ _ = false

-- whether two lists are equally long, and each known place of the first is equal in the second
abbrev pub covers : List Trit → List Trit → Bool
covers [] [] = true
covers (w ∷ ws) (n ∷ ns) = (is_unknown w || same w n) && covers ws ns
covers _ _ = false
