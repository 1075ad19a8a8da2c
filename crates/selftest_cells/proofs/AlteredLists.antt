-- Lists of which one element is altered.
use Rattle.std.proofs.Common.{◌≡◌, All, List, [], ◌∷◌, length, map, refl, ap}
use Rattle.std.proofs.lemmas.List.Elements.{All-cons, All-head, All-tail}
use Rattle.selftest_cells.specs.Damage.{alter_first, alter_second}

module _ {X : Type 0} (f : X → X) where
  pub length-alter_first : (xs : List X) → length (alter_first f xs) ≡ length xs
  length-alter_first [] = refl
  length-alter_first (x ∷ xs) = refl

  -- what altering keeps holds of each element again
  pub all-alter_first : (P : X → Type 0) → ((x : X) → P x → P (f x)) → (xs : List X) → All P xs → All P (alter_first f xs)
  all-alter_first P kept [] h = h
  all-alter_first P kept (x ∷ xs) h = All-cons P (f x) xs (kept x (All-head P x xs h)) (All-tail P x xs h)

  pub all-alter_second : (P : X → Type 0) → ((x : X) → P x → P (f x)) → (xs : List X) → All P xs → All P (alter_second f xs)
  all-alter_second P kept [] h = h
  all-alter_second P kept (x ∷ xs) h =
      All-cons P x (alter_first f xs) (All-head P x xs h) (all-alter_first P kept xs (All-tail P x xs h))

  -- a part that altering keeps
  pub map-alter_first : {Y : Type 0} (g : X → Y) → ((x : X) → g (f x) ≡ g x) → (xs : List X) → map g (alter_first f xs) ≡ map g xs
  map-alter_first g same [] = refl
  map-alter_first g same (x ∷ xs) = ap (λ y. y ∷ map g xs) (same x)
