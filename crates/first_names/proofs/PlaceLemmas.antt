-- Things whose names are added to a list one after another.
use Rattle.std.proofs.Common.{◌≡◌, ◌<◌, ℕ, zero, suc, ◌+◌, Bool, true, false, cond, if◌then◌else◌, List, [], ◌∷◌, ◌++◌, take}
use Rattle.std.proofs.Common.{get_or, length, position, Option, Some, None, refl, sym, ap, subst, ◌∙◌, arith, length-append}
use Rattle.std.specs.Prelude.{slice_get, slice_set, Result, Ok, Err, OnOk}
use Rattle.std.specs.List.{position_from}
use Rattle.std.specs.Option.{option_and_then}
use Rattle.std.specs.Str.{bytes_eq}
use Rattle.std.proofs.lemmas.List.{take_more, length-take-le, length-set}
use Rattle.std.proofs.lemmas.List.Quantifiers.{position-Some}
use Rattle.std.proofs.lemmas.Iterator.Adapters.{position_from-zero}
use Rattle.std.proofs.lemmas.Slice.Eq.{bytes_eq-Decides}
use Rattle.bool_functions.specs.NameList.{number_of, Adds}
use Rattle.first_names.specs.declared.places.FirstNames.{FirstNames}
use Rattle.first_names.specs.Places.{place_by, places_with, AddsPlace, SetsPlace, FindsFirst}

-- the first answer, and else the number of the last element where it passes
abbrev pub or_last : {X : Type 0} → Option X → Bool → X → Option X
or_last (Some n) b last = Some n
or_last None b last = if b then Some last else None

from_last : {X : Type 0} (test : X → Bool) (k : ℕ) (xs : List X) (x : X)
    → position_from test k (xs ++ x ∷ []) ≡ or_last (position_from test k xs) (test x) (k + length xs)
from_last test k [] x =
    let here : k ≡ k + 0 = omega arith in
    elim (test x) as (λ b. cond b (Some k) None ≡ (if b then Some (k + 0) else None)) [
      | true ↦ ap Some here
      | false ↦ refl
    ]
from_last test k (y ∷ xs) x =
    let further : (k + 1) + length xs ≡ k + suc (length xs) = omega arith in
    elim (test y) as (λ b. cond b (Some k) (position_from test (k + 1) (xs ++ x ∷ [])) ≡ or_last
    (cond b (Some k) (position_from test (k + 1) xs)) (test x) (k + suc (length xs))) [
      | true ↦ refl
      | false ↦ from_last test (k + 1) xs x ∙ ap (or_last (position_from test (k + 1) xs) (test x)) further
    ]

-- the first place in a list with one element more
position_last : {X : Type 0} (test : X → Bool) (xs : List X) (x : X)
    → position test (xs ++ x ∷ []) ≡ or_last (position test xs) (test x) (length xs)
position_last test xs x =
    let size : 0 + length xs ≡ length xs = omega arith in
    position_from-zero test (xs ++ x ∷ []) ∙ from_last test 0 xs x ∙ ap (or_last (position_from test 0 xs) (test x)) size
    ∙ ap (λ o. or_last o (test x) (length xs)) (sym (position_from-zero test xs))

-- a place within a list, and the one behind it
get_within : {X : Type 0} (xs : List X) (x : X) (k : ℕ) (b : Bool) → k < length xs → slice_get (xs ++ x ∷ []) k ≡ or_last (slice_get xs k) b x
get_within [] x k b h = absurd (omega (arith, h))
get_within (y ∷ xs) x zero b h = refl
get_within (y ∷ xs) x (suc k) b h = get_within xs x k b (omega (arith, h))

get_behind : {X : Type 0} (xs : List X) (x : X) → slice_get (xs ++ x ∷ []) (length xs) ≡ Some x
get_behind [] x = refl
get_behind (y ∷ xs) x = get_behind xs x

is_there : {X : Type 0} (xs : List X) (k : ℕ) → k < length xs → slice_get xs k ≡ None → {A : Type 0} → A
is_there [] k h e = absurd (omega (arith, h))
is_there (y ∷ xs) zero h e = absurd cc
is_there (y ∷ xs) (suc k) h e = is_there xs k (omega (arith, h)) e

-- what stands for a name after a new one was added
pub added_new :
    {X : Type 0} (names : List (List ℕ)) (places : List X) (name x : List ℕ) (number : X) → length places ≡ length names
    → option_and_then (slice_get (places ++ number ∷ [])) (number_of (names ++ name ∷ []) x) ≡ or_last
    (option_and_then (slice_get places) (number_of names x)) (bytes_eq x name) number
added_new {X} names places name x number same =
    ap (option_and_then (slice_get (places ++ number ∷ []))) (position_last (bytes_eq x) names name)
    ∙ by_number (number_of names x) refl (bytes_eq x name)
  where
    by_number : (o : Option ℕ) → number_of names x ≡ o → (b : Bool)
        → option_and_then (slice_get (places ++ number ∷ [])) (or_last o b (length names)) ≡ or_last
        (option_and_then (slice_get places) o) b number
    by_number (Some k) e b = get_within places number k b
        (subst (λ n. k < n) (sym same) (position-Some (bytes_eq x) names k [] e).0)
    by_number None e true = ap (slice_get (places ++ number ∷ [])) (sym same) ∙ get_behind places number
    by_number None e false = refl

-- and after one that was there
added_old : (names : List (List ℕ)) (places : List ℕ) (name x : List ℕ) (number : ℕ) → length places ≡ length names
    → (number_of names name ≡ None → ⊥)
    → option_and_then (slice_get places) (number_of names x) ≡ or_last (option_and_then (slice_get places) (number_of names x))
    (bytes_eq x name) number
added_old names places name x number same there = by_number (number_of names x) refl (bytes_eq x name) refl
  where
    by_place : (k : ℕ) → k < length places → (b : Bool) → slice_get places k ≡ or_last (slice_get places k) b number
    by_place k h b = by_answer (slice_get places k) refl
      where
        by_answer : (o : Option ℕ) → slice_get places k ≡ o → o ≡ or_last o b number
        by_answer (Some n) e = refl
        by_answer None e = is_there places k h e

    by_number : (o : Option ℕ) → number_of names x ≡ o → (b : Bool) → bytes_eq x name ≡ b
        → option_and_then (slice_get places) o ≡ or_last (option_and_then (slice_get places) o) b number
    by_number (Some k) e b f = by_place k (subst (λ n. k < n) (sym same) (position-Some (bytes_eq x) names k [] e).0) b
    by_number None e true f = absurd (there (subst (λ n. number_of names n ≡ None) ((bytes_eq-Decides x name).0 f) e))
    by_number None e false f = refl

more_names : (old new : List (List ℕ)) (name : List ℕ) (found : Option ℕ) (places : List ℕ) (number : ℕ) → Adds old name found new
    → length places ≡ length old
    → length (places_with found places number) ≡ length new
more_names old new name (Some i) places number a e =
    length-append places (number ∷ []) ∙ ap (λ n. n + 1) e ∙ sym (length-append old (name ∷ [])) ∙ ap length (sym a.2)
more_names old new name None places number a e = e ∙ ap length (sym a.1)

added : (old new : FirstNames) (name x : List ℕ) (number : ℕ) (found : Option ℕ) → length old.places ≡ length old.names
    → Adds old.names name found new.names
    → new.places ≡ places_with found old.places number → place_by new x ≡ or_last (place_by old x) (bytes_eq x name) number
added old new name x number (Some i) same a e = rw (a.2, e) (added_new old.names old.places name x number same)
added old new name x number None same a e = rw (a.1, e) (added_old old.names old.places name x number same a.0)

-- behind one thing more
pub first_more : {X : Type 0} (name_of : X → List ℕ) (old new : FirstNames) (xs : List X) (i : ℕ) (x : X) → i < length xs
    → x ≡ get_or xs i x
    → FindsFirst name_of old (take i xs) → AddsPlace old (name_of x) i new → FindsFirst name_of new (take (i + 1) xs)
first_more name_of old new xs i x h e f a =
    let longer : take (i + 1) xs ≡ take i xs ++ x ∷ [] = take_more xs i x h ∙ ap (λ u. take i xs ++ u ∷ []) (sym e) in
    let size : length (take i xs) ≡ i = length-take-le i xs (omega (arith, h)) in
    record {
      same_length = ap length a.places ∙ more_names old.names new.names (name_of x) a.found old.places i a.names f.same_length;
      first = λ name.
          added old new (name_of x) name i a.found f.same_length a.names a.places
          ∙ ap (λ o. or_last o (bytes_eq name (name_of x)) i) (f.first name)
          ∙ ap (or_last (position (λ u. bytes_eq name (name_of u)) (take i xs)) (bytes_eq name (name_of x))) (sym size)
          ∙ sym (position_last (λ u. bytes_eq name (name_of u)) (take i xs) x)
          ∙ sym (ap (position (λ u. bytes_eq name (name_of u))) longer);
    }

-- another number at a place of a list
get_set_same : {X : Type 0} (xs : List X) (k : ℕ) (x : X) → k < length xs → slice_get (slice_set xs k x) k ≡ Some x
get_set_same [] k x h = absurd (omega (arith, h))
get_set_same (y ∷ xs) zero x h = refl
get_set_same (y ∷ xs) (suc k) x h = get_set_same xs k x (omega (arith, h))

get_set_other : {X : Type 0} (xs : List X) (k j : ℕ) (x : X) → (j ≡ k → ⊥) → slice_get (slice_set xs k x) j ≡ slice_get xs j
get_set_other [] k j x n = refl
get_set_other (y ∷ xs) zero zero x n = absurd (n refl)
get_set_other (y ∷ xs) zero (suc j) x n = refl
get_set_other (y ∷ xs) (suc k) zero x n = refl
get_set_other (y ∷ xs) (suc k) (suc j) x n = get_set_other xs k j x (λ e. n (ap suc e))

pub number_within : (names : List (List ℕ)) (name : List ℕ) (k : ℕ) → number_of names name ≡ Some k → k < length names
number_within names name k e = (position-Some (bytes_eq name) names k [] e).0

-- two names have two numbers
one_number : (names : List (List ℕ)) (name other : List ℕ) (k j : ℕ) → number_of names name ≡ Some k
    → number_of names other ≡ Some j
    → bytes_eq other name ≡ false → j ≡ k → ⊥
one_number names name other k j e f unlike same =
    let one : name ≡ get_or names k [] =
    (bytes_eq-Decides name (get_or names k [])).0 (position-Some (bytes_eq name) names k [] e).1 in
    let two : other ≡ get_or names j [] =
    (bytes_eq-Decides other (get_or names j [])).0 (position-Some (bytes_eq other) names j [] f).1 in
    let equal : other ≡ name = two ∙ ap (λ n. get_or names n []) same ∙ sym one in
    let wrong : false ≡ true = sym unlike ∙ (bytes_eq-Decides other name).1 equal in
    absurd cc

pub set_at :
    {X : Type 0} (names : List (List ℕ)) (places : List X) (name other : List ℕ) (k : ℕ) (place : X) → length places ≡ length names
    → number_of names name ≡ Some k
    → option_and_then (slice_get (slice_set places k place)) (number_of names other)
    ≡ (if bytes_eq other name then Some place else option_and_then (slice_get places) (number_of names other))
set_at {X} names places name other k place same e = by (bytes_eq other name) refl
  where
    unlike : (o : Option ℕ) → number_of names other ≡ o → bytes_eq other name ≡ false
        → option_and_then (slice_get (slice_set places k place)) o ≡ option_and_then (slice_get places) o
    unlike None f b = refl
    unlike (Some j) f b = get_set_other places k j place (one_number names name other k j e f b)

    by : (b : Bool) → bytes_eq other name ≡ b
        → option_and_then (slice_get (slice_set places k place)) (number_of names other)
        ≡ (if b then Some place else option_and_then (slice_get places) (number_of names other))
    by true b =
        let equal : other ≡ name = (bytes_eq-Decides other name).0 b in
        ap (option_and_then (slice_get (slice_set places k place))) (ap (number_of names) equal ∙ e)
        ∙ get_set_same places k place (subst (λ n. k < n) (sym same) (number_within names name k e))
    by false b = unlike (number_of names other) refl b

-- a name that has a number stands for another place
pub set_old : (old new : FirstNames) (name : List ℕ) (place k : ℕ) → length old.places ≡ length old.names
    → number_of old.names name ≡ Some k
    → new.names ≡ old.names → new.places ≡ slice_set old.places k place → SetsPlace old name place new
set_old old new name place k same e n p =
    record {
      same_length = ap length p ∙ length-set old.places k place ∙ same ∙ sym (ap length n);
      stands = λ other. rw (n, p) (set_at old.names old.places name other k place same e);
    }

-- and a name that has none stands for one
pub set_new : (old new : FirstNames) (name : List ℕ) (place : ℕ) → length old.places ≡ length old.names
    → number_of old.names name ≡ None
    → new.names ≡ old.names ++ name ∷ [] → new.places ≡ old.places ++ place ∷ [] → SetsPlace old name place new
set_new old new name place same e n p =
    record {
      same_length = ap length p ∙ length-append old.places (place ∷ []) ∙ ap (λ k. k + 1) same
          ∙ sym (length-append old.names (name ∷ [])) ∙ sym (ap length n);
      stands = λ other. rw (n, p) (added_new old.names old.places name other place same ∙ last other (bytes_eq other name) refl);
    }
  where
    kept : (o : Option ℕ) → or_last o false place ≡ o
    kept None = refl
    kept (Some k) = refl

    last : (other : List ℕ) (b : Bool) → bytes_eq other name ≡ b
        → or_last (place_by old other) b place ≡ (if b then Some place else place_by old other)
    last other true b = ap (λ o. or_last (option_and_then (slice_get old.places) o) true place)
        (ap (number_of old.names) ((bytes_eq-Decides other name).0 b) ∙ e)
    last other false b = kept (place_by old other)

-- what two facts of a call that went well come to
pub where_both : {X E A B C : Type 0} (result : Result X E) → (A → B → C) → OnOk result A → OnOk result B → OnOk result C
where_both (Ok x) f a b = f a b
where_both (Err e) f a b = tt
