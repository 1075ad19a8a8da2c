-- Items by their places.
use Rattle.std.proofs.Common.{◌≡◌, ℕ, zero, suc, ◌+◌, ◌<◌, Bool, true, false, ◌||◌, cond, List, [], ◌∷◌, ◌++◌, length, Option, Some}
use Rattle.std.proofs.Common.{None, is_some, slice_get, refl, sym, ap, ◌∙◌, arith, subst, length-append}
use Rattle.std.specs.List.{AllByRecursion, list_any, position_from}
use Rattle.std.specs.Option.{option_map_or}
use Rattle.std.specs.Str.{bytes_eq}
use Rattle.std.proofs.lemmas.Cmp.{nat_list_eq_equiv}

-- a name is itself
pub same_bytes : (x : List ℕ) → bytes_eq x x ≡ true
same_bytes = nat_list_eq_equiv.refl

pub at_place : {A : Type 0} (P : A → Type 0) (before : List A) (x : A) (after : List A) → AllByRecursion P (before ++ x ∷ after)
    → P x
at_place P [] x after h = h.0
at_place P (y ∷ before) x after h = at_place P before x after h.1

pub get_at : {A : Type 0} (before : List A) (x : A) (after : List A) → slice_get (before ++ x ∷ after) (length before) ≡ Some x
get_at [] x after = refl
get_at (y ∷ before) x after = get_at before x after

pub one_longer : {A : Type 0} (before : List A) (x : A) → length before + 1 ≡ length (before ++ x ∷ [])
one_longer before x = sym (length-append before (x ∷ []))

pub none_if : (o : Option ℕ) → is_some o ≡ false → o ≡ None
none_if None h = refl
none_if (Some at) h = absurd cc

-- what passes a test is there
pub passing : {A : Type 0} (test : A → Bool) (o : Option A) → option_map_or test o false ≡ true → (x : A) × (o ≡ Some x)
passing test None h = absurd cc
passing test (Some x) h = (x, refl)

-- there is an item at each place of a list
pub known_item : {A : Type 0} (xs : List A) (i : ℕ) → i < length xs → (x : A) × (slice_get xs i ≡ Some x)
known_item [] i h = absurd (omega (arith, h))
known_item (x ∷ xs) zero h = (x, refl)
known_item (x ∷ xs) (suc i) h = known_item xs i (omega (arith, h))

-- the item with a number, between others
pub record IsAt {A : Type 0} (xs : List A) (i : ℕ) (x : A) : Type 0 where
  pub before : List A
  pub after : List A
  pub split : xs ≡ before ++ x ∷ after
  pub place : length before ≡ i

pub item_at : {A : Type 0} (xs : List A) (i : ℕ) (x : A) → slice_get xs i ≡ Some x → IsAt xs i x
item_at [] i x e = absurd cc
item_at (y ∷ xs) zero x e =
    let same : y ≡ x = cc in
    record { before = []; after = xs; split = ap (λ z. z ∷ xs) same; place = refl }
item_at (y ∷ xs) (suc i) x e =
    let at = item_at xs i x e in
    record { before = y ∷ at.before; after = at.after; split = ap (λ l. y ∷ l) at.split; place = ap (λ n. suc n) at.place }

pub all_at : {A : Type 0} (P : A → Type 0) (xs : List A) (i : ℕ) (x : A) → AllByRecursion P xs → slice_get xs i ≡ Some x → P x
all_at P xs i x all e = let at = item_at xs i x e in at_place P at.before x at.after (subst (AllByRecursion P) at.split all)

-- the place of the first item that passes a test
pub found_behind : {A : Type 0} (test : A → Bool) (i : ℕ) (before : List A) (x : A) (after : List A)
    → list_any test before ≡ false → test x ≡ true
    → position_from test i (before ++ x ∷ after) ≡ Some (i + length before)
found_behind test i [] x after none here = let same : i ≡ i + 0 = omega arith in rw here (ap (λ (n : ℕ). Some n) same)
found_behind test i (y ∷ before) x after none here = by (λ h. found_behind test (i + 1) before x after h here) (test y) refl none
  where
    by : (list_any test before ≡ false → position_from test (i + 1) (before ++ x ∷ after) ≡ Some (i + 1 + length before))
        → (t : Bool) → test y ≡ t → (t || list_any test before) ≡ false
        → cond (test y) (Some i) (position_from test (i + 1) (before ++ x ∷ after)) ≡ Some (i + length (y ∷ before))
    by rest true e h = absurd cc
    by rest false e h =
        let next : i + 1 + length before ≡ i + length (y ∷ before) = omega arith in
        rw e (rest h ∙ ap (λ (n : ℕ). Some n) next)
