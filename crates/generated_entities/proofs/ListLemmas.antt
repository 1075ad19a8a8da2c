-- Lists of which each element has a property, or of which no element stands twice.
use Rattle.std.proofs.Common.{◌≡◌, Bool, false, List, [], ◌∷◌, ◌++◌, inl, inr, refl, sym, ap, ◌∙◌}
use Rattle.std.specs.Prelude.{All, flat_map, filter, if◌then◌else◌}
use Rattle.std.specs.List.{IsDistinct, AllByRecursion}
use Rattle.std.proofs.lemmas.List.Elements.{All-nil, All-cons}
use Rattle.std.proofs.lemmas.Map.Keys.{IsDistinct-cons, IsDistinct-head, IsDistinct-tail}
use Rattle.std.proofs.lemmas.Grind.{flat_map-append as flat_append}
use Rattle.trit_cubes.proofs.ListLemmas.{Among}

-- what holds of each element
pub all_from : {X : Type 0} (P : X → Type 0) (xs : List X) → ((x : X) → Among x xs → P x) → All P xs
all_from P [] h = All-nil P
all_from P (x ∷ xs) h = All-cons P x xs (h x (inl refl)) (all_from P xs (λ y m. h y (inr m)))

both_lists : {X : Type 0} (P : X → Type 0) (xs ys : List X) → AllByRecursion P xs → AllByRecursion P ys
    → AllByRecursion P (xs ++ ys)
both_lists P [] ys h k = k
both_lists P (x ∷ xs) ys h k = (h.0, both_lists P xs ys h.1 k)

-- one more element that is unlike those before it
pub push_apart :
    {X : Type 0} (e : X → X → Bool) (xs : List X) (y : X)
    → IsDistinct e xs → ((x : X) → Among x xs → e x y ≡ false) → IsDistinct e (xs ++ y ∷ [])
unfolding IsDistinct
push_apart e [] y h k = (tt, tt)
push_apart e (x ∷ xs) y h k =
    IsDistinct-cons e x (xs ++ y ∷ [])
    (both_lists (λ z. e x z ≡ false) xs (y ∷ []) (IsDistinct-head e x xs h) (k x (inl refl), tt))
    (push_apart e xs y (IsDistinct-tail e x xs h) (λ z m. k z (inr m)))

-- what functions that agree on all elements give
pub flat_same :
    {X Y : Type 0} (f g : X → List Y) (xs : List X) → ((x : X) → Among x xs → f x ≡ g x) → flat_map f xs ≡ flat_map g xs
flat_same f g [] h = refl
flat_same f g (x ∷ xs) h =
    ap (λ ys. ys ++ flat_map f xs) (h x (inl refl)) ∙ ap (λ ys. g x ++ ys) (flat_same f g xs (λ y m. h y (inr m)))

-- what is given in two steps
pub flat_flat :
    {X Y Z : Type 0} (f : Y → List Z) (g : X → List Y) (xs : List X)
    → flat_map (λ x. flat_map f (g x)) xs ≡ flat_map f (flat_map g xs)
flat_flat f g [] = refl
flat_flat f g (x ∷ xs) = ap (λ zs. flat_map f (g x) ++ zs) (flat_flat f g xs) ∙ sym (flat_append f (g x) (flat_map g xs))

-- a filter that nothing passes
pub filter_none : {X : Type 0} (p : X → Bool) (xs : List X) → ((x : X) → Among x xs → p x ≡ false) → filter p xs ≡ []
filter_none p [] h = refl
filter_none p (x ∷ xs) h =
    ap (λ b. if b then x ∷ filter p xs else filter p xs) (h x (inl refl)) ∙ filter_none p xs (λ y m. h y (inr m))
