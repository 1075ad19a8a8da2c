-- Lists: the first entry that passes a test, entries of filtered lists, and lists that fit place by place.
use Rattle.std.proofs.Common.{◌≡◌, ℕ, zero, suc, ◌+◌, Bool, true, false, ◌||◌, cond, List, [], ◌∷◌, length, get_or, inl, inr}
use Rattle.std.proofs.Common.{refl, sym, ap, ◌∙◌, arith, Some, None, slice_get, if◌then◌else◌}
use Rattle.std.specs.Prelude.{filter, find}
use Rattle.std.specs.List.{list_any, position_from}
use Rattle.trit_cubes.specs.declared.trits.Trit.{Trit}
use Rattle.trit_cubes.specs.declared.trits.Trit.TheVariants.{Unknown}
use Rattle.trit_cubes.proofs.ListLemmas.{Among}
use Rattle.model_traces.specs.FitLists.{FitEach}
use Rattle.model_traces.specs.SequentialStates.{picked}

-- two answers that are true together
pub both-true : (a b : Bool) → (a ≡ true → b ≡ true) → (b ≡ true → a ≡ true) → a ≡ b
both-true true b h k = sym (h refl)
both-true false true h k = k refl
both-true false false h k = refl

-- an entry at a place stands in the list
pub among-place : {X : Type 0} (xs : List X) (i : ℕ) (x : X) → slice_get xs i ≡ Some x → Among x xs
among-place [] i x e = absurd cc
among-place (y ∷ ys) zero x e = let same : y ≡ x = cc in inl same
among-place (y ∷ ys) (suc i) x e = inr (among-place ys i x e)

-- lists of which each entry fits the one at its place
pub fit-places :
    {X Y : Type 0} (fits : X → Y → Type 0) (xs : List X) (ys : List Y)
    → length ys ≡ length xs
    → ((i : ℕ) (x : X) (y : Y) → slice_get xs i ≡ Some x → slice_get ys i ≡ Some y → fits x y) → FitEach fits xs ys
fit-places fits [] [] e h = tt
fit-places fits [] (y ∷ ys) e h = absurd (omega (arith, e))
fit-places fits (x ∷ xs) [] e h = absurd (omega (arith, e))
fit-places fits (x ∷ xs) (y ∷ ys) e h =
    (h 0 x y refl refl, fit-places fits xs ys (omega (arith, e)) (λ i a b f g. h (suc i) a b f g))

-- tests that answer the same for each entry find the same place
pub same-place :
    {X : Type 0} (p q : X → Bool) (k : ℕ) (xs : List X)
    → ((x : X) → Among x xs → p x ≡ q x) → position_from p k xs ≡ position_from q k xs
same-place p q k [] h = refl
same-place p q k (x ∷ xs) h = λ i. cond (h x (inl refl) i) (Some k) (same-place p q (k + 1) xs (λ y m. h y (inr m)) i)

-- a test that no entry passes finds no place, and one that finds none is passed by no entry
pub no-place : {X : Type 0} (p : X → Bool) (k : ℕ) (xs : List X) → ((x : X) → Among x xs → p x ≡ false)
    → position_from p k xs ≡ None
no-place p k [] h = refl
no-place p k (x ∷ xs) h =
    ap (λ b. cond b (Some k) (position_from p (k + 1) xs)) (h x (inl refl)) ∙ no-place p (k + 1) xs (λ y m. h y (inr m))

pub none-passes : {X : Type 0} (p : X → Bool) (k : ℕ) (xs : List X) → position_from p k xs ≡ None → (x : X) → Among x xs
    → p x ≡ false
none-passes p k [] e x m = absurd m
none-passes p k (y ∷ ys) e x m = by (p y) refl e m (λ none more. none-passes p (k + 1) ys none x more)
  where
    by :
        (b : Bool) → p y ≡ b → cond b (Some k) (position_from p (k + 1) ys) ≡ None → Among x (y ∷ ys)
        → (position_from p (k + 1) ys ≡ None → Among x ys → p x ≡ false) → p x ≡ false
    by true t none m again = absurd cc
    by false f none (inl same) again = ap p (sym same) ∙ f
    by false f none (inr more) again = again none more

-- a test that some entry passes finds a place
pub some-place : {X : Type 0} (p : X → Bool) (k : ℕ) (xs : List X) → list_any p xs ≡ true
    → (i : ℕ) × (position_from p k xs ≡ Some i)
some-place p k [] h = absurd cc
some-place p k (x ∷ xs) h = by (p x) h (λ rest. some-place p (k + 1) xs rest)
  where
    by :
        (b : Bool) → (b || list_any p xs) ≡ true → (list_any p xs ≡ true → (i : ℕ) × (position_from p (k + 1) xs ≡ Some i))
        → (i : ℕ) × (cond b (Some k) (position_from p (k + 1) xs) ≡ Some i)
    by true any again = (k, refl)
    by false any again = again any

-- the first entry that passes, and its place
pub found-place :
    {X : Type 0} (p : X → Bool) (k : ℕ) (xs : List X) (x : X)
    → find p xs ≡ Some x → (i : ℕ) × (position_from p k xs ≡ Some (k + i)) × (slice_get xs i ≡ Some x)
found-place p k [] x e = absurd cc
found-place p k (y ∷ ys) x e = by (p y) refl e (λ rest. found-place p (k + 1) ys x rest)
  where
    by :
        (b : Bool) → p y ≡ b → cond b (Some y) (find p ys) ≡ Some x
        → (find p ys ≡ Some x → (i : ℕ) × (position_from p (k + 1) ys ≡ Some ((k + 1) + i)) × (slice_get ys i ≡ Some x))
        → (i : ℕ) × (cond b (Some k) (position_from p (k + 1) ys) ≡ Some (k + i)) × (slice_get (y ∷ ys) i ≡ Some x)
    by true t found again = let at : k ≡ k + 0 = omega arith in (0, ap Some at, found)
    by false f found again =
        let rest = again found in
        let at : (k + 1) + rest.0 ≡ k + suc rest.0 = omega arith in
        (suc rest.0, rest.1 ∙ ap Some at, rest.2)

-- what is picked beside the first entry, and beside the others, by whether the first one passes
pick-first :
    {X : Type 0} (p : X → Bool) (y : X) (ys : List X) → p y ≡ true
    → (ss : List Trit) → get_or (picked p (y ∷ ys) ss) 0 Unknown ≡ get_or ss 0 Unknown
pick-first p y ys t [] = refl
pick-first p y ys t (s ∷ ss) = ap (λ b. get_or (if b then s ∷ picked p ys ss else picked p ys ss) 0 Unknown) t

-- the state beside entry g of those that pass is the one beside entry i of all
abbrev pub IsPicked : {X : Type 0} → (X → Bool) → List X → ℕ → ℕ → Type 0
IsPicked p xs g i = (ss : List Trit) → get_or (picked p xs ss) g Unknown ≡ get_or ss i Unknown

pick-passing :
    {X : Type 0} (p : X → Bool) (y : X) (ys : List X) (g i : ℕ) → p y ≡ true
    → IsPicked p ys g i → IsPicked p (y ∷ ys) (suc g) (suc i)
pick-passing p y ys g i t same [] = refl
pick-passing p y ys g i t same (s ∷ ss) =
    ap (λ b. get_or (if b then s ∷ picked p ys ss else picked p ys ss) (suc g) Unknown) t ∙ same ss

pick-failing :
    {X : Type 0} (p : X → Bool) (y : X) (ys : List X) (g i : ℕ) → p y ≡ false
    → IsPicked p ys g i → IsPicked p (y ∷ ys) g (suc i)
pick-failing p y ys g i f same [] = refl
pick-failing p y ys g i f same (s ∷ ss) =
    ap (λ b. get_or (if b then s ∷ picked p ys ss else picked p ys ss) g Unknown) f ∙ same ss

-- an entry of a filtered list passes, and stands at some place of the whole list
pub filtered-place :
    {X : Type 0} (p : X → Bool) (xs : List X) (g : ℕ) (x : X)
    → slice_get (filter p xs) g ≡ Some x → (i : ℕ) × (slice_get xs i ≡ Some x) × (p x ≡ true) × IsPicked p xs g i
filtered-place p [] g x e = absurd cc
filtered-place {X} p (y ∷ ys) g x e = by (p y) refl g e (λ n rest. filtered-place p ys n x rest)
  where
    by :
        (b : Bool) → p y ≡ b → (g : ℕ) → slice_get (cond b (y ∷ filter p ys) (filter p ys)) g ≡ Some x
        → ((n : ℕ) → slice_get (filter p ys) n ≡ Some x → (i : ℕ) × (slice_get ys i ≡ Some x) × (p x ≡ true) × IsPicked p ys n i)
        → (i : ℕ) × (slice_get (y ∷ ys) i ≡ Some x) × (p x ≡ true) × IsPicked p (y ∷ ys) g i
    by true t zero found again =
        let same : y ≡ x = cc in
        (0, found, ap p (sym same) ∙ t, pick-first p y ys t)
    by true t (suc g) found again =
        let rest = again g found in
        (suc rest.0, rest.1, rest.2, pick-passing p y ys g rest.0 t rest.3)
    by false f g found again =
        let rest = again g found in
        (suc rest.0, rest.1, rest.2, pick-failing p y ys g rest.0 f rest.3)
