-- Tests of which one holds or the other.
use Rattle.std.proofs.Common.{◌≡◌, Bool, true, false, ◌||◌, refl, sym}

pub there : (a b : Bool) → a ≡ true → a ≡ (a || b)
there true b e = refl
there false b e = absurd cc

pub not_there : (a b : Bool) → b ≡ false → a ≡ (a || b)
not_there true b e = refl
not_there false b e = sym e
