-- How many conditions of a written entity have been looked up at each place of its text.
use Rattle.std.proofs.Common.{◌≡◌, ℕ, zero, suc, ◌+◌, ◌<◌, ◌≤◌, Bool, true, false, nat_eq, nat_lt, if◌then◌else◌, List, [], ◌∷◌}
use Rattle.std.proofs.Common.{◌++◌, length, take, flat_map, Some, slice_get, refl, sym, ap, ◌∙◌, arith, subst, append_assoc}
use Rattle.std.proofs.lemmas.Bool.{eqb-true}
use Rattle.std.proofs.lemmas.Bool.Decides.{nat_tests}
use Rattle.std.proofs.lemmas.List.{append-nil}
use Rattle.std.proofs.lemmas.Grind.{flat_map-append}
use Rattle.std.proofs.Math.Seq.{take-append_seam}
use Rattle.vhdl_grammar.specs.WellFormed.{looks_up_in_order}
use Rattle.grammar_reader.proofs.ItemPlaces.{item_at, one_longer}

-- how many have been looked up behind a look-up, and behind look-ups
abbrev pub seen_with : ℕ → ℕ → ℕ
seen_with seen i = if nat_lt i seen then seen else seen + 1

abbrev pub seen_after : ℕ → List ℕ → ℕ
seen_after seen [] = seen
seen_after seen (i ∷ is) = seen_after (seen_with seen i) is

-- a look-up in order: of one that was looked up, or of the next
pub record IsInOrder (all seen i : ℕ) (is : List ℕ) : Type 0 where
  pub among : i ≤ seen
  pub later : looks_up_in_order all (seen_with seen i) is ≡ true

pub next_look_up : (all seen i : ℕ) (is : List ℕ) → looks_up_in_order all seen (i ∷ is) ≡ true → IsInOrder all seen i is
next_look_up all seen i is h = by (nat_lt i seen) refl h
  where
    by_next : (b : Bool) → nat_eq i seen ≡ b → nat_lt i seen ≡ false
        → (if b then looks_up_in_order all (seen + 1) is else false) ≡ true → IsInOrder all seen i is
    by_next true e f h = record { among = grind (arith, nat_tests, e); later = rw f h }
    by_next false e f h = absurd cc

    by : (b : Bool) → nat_lt i seen ≡ b
        → (if b then looks_up_in_order all seen is
        else (if nat_eq i seen then looks_up_in_order all (seen + 1) is else false)) ≡ true → IsInOrder all seen i is
    by true e h = record { among = grind (arith, nat_tests, e); later = rw e h }
    by false e h = by_next (nat_eq i seen) refl e h

pub behind_look_ups : (all seen : ℕ) (xs ys : List ℕ) → looks_up_in_order all seen (xs ++ ys) ≡ true
    → looks_up_in_order all (seen_after seen xs) ys ≡ true
behind_look_ups all seen [] ys h = h
behind_look_ups all seen (i ∷ xs) ys h = behind_look_ups all (seen_with seen i) xs ys (next_look_up all seen i (xs ++ ys) h).later

pub seen_behind : (seen : ℕ) (xs ys : List ℕ) → seen_after seen (xs ++ ys) ≡ seen_after (seen_after seen xs) ys
seen_behind seen [] ys = refl
seen_behind seen (i ∷ xs) ys = seen_behind (seen_with seen i) xs ys

no_fewer : (seen i : ℕ) → seen ≤ seen_with seen i
no_fewer seen i = by (nat_lt i seen)
  where
    by : (b : Bool) → seen ≤ (if b then seen else seen + 1)
    by true = omega arith
    by false = omega arith

-- no more are looked up than there are
pub no_more : (all seen : ℕ) (is : List ℕ) → looks_up_in_order all seen is ≡ true → seen ≤ all
no_more all seen [] h = grind (arith, nat_tests, h)
no_more all seen (i ∷ is) h = omega
    (arith, no_fewer seen i, no_more all (seen_with seen i) is (next_look_up all seen i is h).later)

-- at the end each has been looked up
pub all_seen : (all seen : ℕ) → looks_up_in_order all seen [] ≡ true → seen ≡ all
all_seen all seen h = eqb-true seen all h

-- the look-ups of an item between others
pub looks_at : {A : Type 0} (f : A → List ℕ) (all seen : ℕ) (before : List A) (x : A) (after : List A) (tail : List ℕ)
    → looks_up_in_order all seen (flat_map f (before ++ x ∷ after) ++ tail) ≡ true
    → looks_up_in_order all (seen_after seen (flat_map f before)) (f x ++ (flat_map f after ++ tail)) ≡ true
looks_at f all seen before x after tail h =
    let split : flat_map f (before ++ x ∷ after) ++ tail ≡ flat_map f before ++ (f x ++ (flat_map f after ++ tail)) =
    ap (λ (l : List ℕ). l ++ tail) (flat_map-append f before (x ∷ after))
    ∙ append_assoc (flat_map f before) (f x ++ flat_map f after) tail
    ∙ ap (λ (l : List ℕ). flat_map f before ++ l) (append_assoc (f x) (flat_map f after) tail) in
    behind_look_ups all seen (flat_map f before) (f x ++ (flat_map f after ++ tail))
    (subst (λ (l : List ℕ). looks_up_in_order all seen l ≡ true) split h)

pub seen_with_item : {A : Type 0} (f : A → List ℕ) (seen : ℕ) (before : List A) (x : A)
    → seen_after (seen_after seen (flat_map f before)) (f x) ≡ seen_after seen (flat_map f (before ++ x ∷ []))
seen_with_item f seen before x =
    let split : flat_map f (before ++ x ∷ []) ≡ flat_map f before ++ f x = flat_map-append f before (x ∷ [])
    ∙ ap (λ (l : List ℕ). flat_map f before ++ l) (append-nil (f x)) in
    sym (seen_behind seen (flat_map f before) (f x)) ∙ ap (seen_after seen) (sym split)

-- Fronts of lists.

pub at_front : {A : Type 0} (n i : ℕ) (xs : List A) → i < n → slice_get (take n xs) i ≡ slice_get xs i
at_front zero i xs h = absurd (omega (arith, h))
at_front (suc n) i [] h = refl
at_front (suc n) zero (x ∷ xs) h = refl
at_front (suc n) (suc i) (x ∷ xs) h = at_front n i xs (omega (arith, h))

pub take_next : {A : Type 0} (xs : List A) (n : ℕ) (x : A) → slice_get xs n ≡ Some x → take n xs ++ x ∷ [] ≡ take (n + 1) xs
take_next {A = A} xs n x h =
    let at = item_at xs n x h in
    let more : n + 1 ≡ length (at.before ++ x ∷ []) = omega (arith, one_longer at.before x, at.place) in
    let front : take n xs ≡ at.before =
    ap (λ (m : ℕ). take m xs) (sym at.place) ∙ ap (λ (l : List A). take (length at.before) l) at.split
    ∙ take-append_seam at.before (x ∷ at.after) in
    let whole : take (n + 1) xs ≡ at.before ++ x ∷ [] =
    ap (λ (m : ℕ). take m xs) more ∙ ap (λ (l : List A). take (length (at.before ++ x ∷ [])) l)
    (at.split ∙ sym (append_assoc at.before (x ∷ []) at.after))
    ∙ take-append_seam (at.before ++ x ∷ []) at.after in
    ap (λ (l : List A). l ++ x ∷ []) front ∙ sym whole
