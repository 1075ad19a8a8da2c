-- The numbers of the entries of a list that pass a test.
use Rattle.std.proofs.Common.{◌≡◌, ℕ, zero, suc, ◌+◌, ◌<◌, Bool, true, false, ◌||◌, cond, List, [], ◌∷◌, ◌++◌, length, take}
use Rattle.std.proofs.Common.{get_or, refl, sym, ap, ◌∙◌, Some, slice_get, arith, add-one, eqb}
use Rattle.std.specs.Prelude.{filter, option_to_list}
use Rattle.std.proofs.Math.Bool.{or-true}
use Rattle.std.proofs.lemmas.Bool.Decides.{nat_tests}
use Rattle.cell_machine.specs.Names.{has}
use Rattle.cell_machine.specs.Places.{places_from, entries_at, AreBelow}
use Rattle.cell_machine.proofs.ArcDelays.{some_at}

-- one entry more passes the test or does not

places-take :
    {X : Type 0} (t : X → Bool) (k : ℕ) (xs : List X) (i : ℕ) (x : X)
    → slice_get xs i ≡ Some x
    → places_from t k (take i xs) ++ cond (t x) ((k + i) ∷ []) [] ≡ places_from t k (take (suc i) xs)
places-take t k [] i x e = absurd cc
places-take t k (y ∷ ys) zero x e =
    let same : y ≡ x = cc in
    let here : k + 0 ≡ k = omega arith in
    (λ j. cond (t (sym same j)) (here j ∷ []) [])
places-take t k (y ∷ ys) (suc i) x e =
    let further : k + suc i ≡ (k + 1) + i = omega arith in
    let rest : places_from t (k + 1) (take i ys) ++ cond (t x) ((k + suc i) ∷ []) [] ≡ places_from t (k + 1) (take (suc i) ys)
    = ap (λ m. places_from t (k + 1) (take i ys) ++ cond (t x) (m ∷ []) []) further ∙ places-take t (k + 1) ys i x e in
    elim (t y) as (λ b.
    cond b (k ∷ places_from t (k + 1) (take i ys)) (places_from t (k + 1) (take i ys)) ++ cond (t x) ((k + suc i) ∷ []) []
    ≡ cond b (k ∷ places_from t (k + 1) (take (suc i) ys)) (places_from t (k + 1) (take (suc i) ys))) [
      | true ↦ ap (λ r. k ∷ r) rest
      | false ↦ rest
    ]

pub places-more :
    {X : Type 0} (t : X → Bool) (xs : List X) (i : ℕ) (x : X) (passes : Bool) (places next : List ℕ)
    → slice_get xs i ≡ Some x → passes ≡ t x → places ≡ places_from t 0 (take i xs)
    → next ≡ places ++ cond passes (i ∷ []) [] → next ≡ places_from t 0 (take (i + 1) xs)
places-more t xs i x passes places next found is so_far added =
    let here : i ≡ 0 + i = omega arith in
    rw add-one
    (added ∙ (λ j. so_far j ++ cond (is j) (here j ∷ []) []) ∙ places-take t 0 xs i x found)

-- the numbers are those of entries

one-below :
    (k n : ℕ) (places : List ℕ) → ((j : ℕ) → j < length places → get_or places j 0 < (k + 1) + n)
    → (b : Bool) (j : ℕ) → j < length (cond b (k ∷ places) places) → get_or (cond b (k ∷ places) places) j 0 < k + suc n
one-below k n places rest true zero inside = omega arith
one-below k n places rest true (suc j) inside = let r = rest j (omega (arith, inside)) in omega (arith, r)
one-below k n places rest false j inside = let r = rest j inside in omega (arith, r)

places-within : {X : Type 0} (t : X → Bool) (k : ℕ) (xs : List X) → AreBelow (k + length xs) (places_from t k xs)
places-within t k [] = λ j inside. absurd (omega (arith, inside))
places-within t k (x ∷ xs) = λ j inside.
    one-below k (length xs) (places_from t (k + 1) xs) (places-within t (k + 1) xs) (t x) j inside

pub places-below : {X : Type 0} (t : X → Bool) (xs : List X) → AreBelow (length xs) (places_from t 0 xs)
places-below t xs = λ j inside. let below = places-within t 0 xs j inside in omega (arith, below)

-- the entries that have the numbers are those that pass the test

entries-from :
    {X : Type 0} (t : X → Bool) (xs : List X) (k : ℕ) (rest : List X)
    → ((j : ℕ) → slice_get xs (k + j) ≡ slice_get rest j) → entries_at xs (places_from t k rest) ≡ filter t rest
entries-from t xs k [] same = refl
entries-from t xs k (x ∷ rest) same =
    let start : k ≡ k + 0 = omega arith in
    let here : slice_get xs k ≡ Some x = ap (slice_get xs) start ∙ same 0 in
    let others : entries_at xs (places_from t (k + 1) rest) ≡ filter t rest
    = entries-from t xs (k + 1) rest (λ j. let on : (k + 1) + j ≡ k + suc j = omega arith in ap (slice_get xs) on ∙ same (suc j)) in
    elim (t x) as (λ b.
    entries_at xs (cond b (k ∷ places_from t (k + 1) rest) (places_from t (k + 1) rest))
    ≡ cond b (x ∷ filter t rest) (filter t rest)) [
      | true ↦ ap (λ o. option_to_list o ++ entries_at xs (places_from t (k + 1) rest)) here ∙ ap (λ r. x ∷ r) others
      | false ↦ others
    ]

pub entries-pass : {X : Type 0} (t : X → Bool) (xs : List X) → entries_at xs (places_from t 0 xs) ≡ filter t xs
entries-pass t xs = entries-from t xs 0 xs (λ j. let here : 0 + j ≡ j = omega arith in ap (slice_get xs) here)

-- as many entries as numbers, each in its place

next-below : (n place : ℕ) (places : List ℕ) → AreBelow n (place ∷ places) → AreBelow n places
next-below n place places below = λ j inside. below (suc j) (omega (arith, inside))

pub entries-long : {X : Type 0} (xs : List X) (places : List ℕ) → AreBelow (length xs) places → length (entries_at xs places) ≡ length places
entries-long xs [] below = refl
entries-long xs (place ∷ places) below =
    let here = some_at xs place (below 0 (omega arith)) in
    ap (λ o. length (option_to_list o ++ entries_at xs places)) here.1 ∙ ap suc (entries-long xs places (next-below (length xs) place places below))

pub entries-get :
    {X : Type 0} (xs : List X) (places : List ℕ) (j : ℕ)
    → AreBelow (length xs) places → j < length places → slice_get (entries_at xs places) j ≡ slice_get xs (get_or places j 0)
entries-get xs [] j below inside = absurd (omega (arith, inside))
entries-get xs (place ∷ places) zero below inside =
    let here = some_at xs place (below 0 (omega arith)) in
    ap (λ o. slice_get (option_to_list o ++ entries_at xs places) 0) here.1 ∙ sym here.1
entries-get xs (place ∷ places) (suc j) below inside =
    let here = some_at xs place (below 0 (omega arith)) in
    ap (λ o. slice_get (option_to_list o ++ entries_at xs places) (suc j)) here.1
    ∙ entries-get xs places j (next-below (length xs) place places below) (omega (arith, inside))

-- an entry that passes the test has its number among them

pub eqb-self : (n : ℕ) → eqb n n ≡ true
eqb-self n = grind (arith, nat_tests)

has-later : (k i : ℕ) (b : Bool) (places : List ℕ) → has places i ≡ true → has (cond b (k ∷ places) places) i ≡ true
has-later k i true places h = ap (λ c. eqb k i || c) h ∙ or-true (eqb k i)
has-later k i false places h = h

pub has-from :
    {X : Type 0} (t : X → Bool) (k : ℕ) (xs : List X) (j : ℕ) (x : X)
    → slice_get xs j ≡ Some x → t x ≡ true → has (places_from t k xs) (k + j) ≡ true
has-from t k [] j x e p = absurd cc
has-from t k (y ∷ ys) zero x e p =
    let same : y ≡ x = cc in
    let here : k + 0 ≡ k = omega arith in
    ap (λ b. has (cond b (k ∷ places_from t (k + 1) ys) (places_from t (k + 1) ys)) (k + 0)) (ap t same ∙ p)
    ∙ ap (λ m. eqb k m || has (places_from t (k + 1) ys) m) here
    ∙ ap (λ b. b || has (places_from t (k + 1) ys) k) (eqb-self k)
has-from t k (y ∷ ys) (suc j) x e p =
    let on : (k + 1) + j ≡ k + suc j = omega arith in
    has-later k (k + suc j) (t y) (places_from t (k + 1) ys)
    (ap (has (places_from t (k + 1) ys)) (sym on) ∙ has-from t (k + 1) ys j x e p)

pub not-placed :
    {X : Type 0} (t : X → Bool) (xs : List X) (j : ℕ) (x : X)
    → slice_get xs j ≡ Some x → has (places_from t 0 xs) j ≡ false → t x ≡ false
not-placed t xs j x e none =
    let here : j ≡ 0 + j = omega arith in
    elim (t x) as (λ b. t x ≡ b → b ≡ false) [
      | true ↦ λ p. sym (has-from t 0 xs j x e p) ∙ (ap (has (places_from t 0 xs)) (sym here) ∙ none)
      | false ↦ λ p. refl
    ] refl

-- the first number, where there is one
pub take-first : (places : List ℕ) (first : ℕ) → slice_get places 0 ≡ Some first → take 1 places ≡ first ∷ []
take-first [] first e = absurd cc
take-first (place ∷ places) first e = let same : place ≡ first = cc in ap (λ m. m ∷ []) same
