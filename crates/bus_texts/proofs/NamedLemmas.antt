-- The vector of a name stands at the place that is kept for the name.
use Rattle.std.proofs.Common.{◌≡◌, ℕ, ◌≤◌, Bool, true, false, cond, ◌==◌, nat_lt, List, length, Option, None}
use Rattle.std.proofs.Common.{Some, if◌then◌else◌, refl, sym, ap, ◌∙◌, arith, slice_get}
use Rattle.std.specs.Prelude.{find, bytes_eq}
use Rattle.std.specs.List.{position, position_or_len}
use Rattle.std.specs.Option.{option_and_then}
use Rattle.std.proofs.lemmas.Bool.Decides.{nat_tests}
use Rattle.std.proofs.lemmas.List.Folds.{find_at}
use Rattle.std.proofs.lemmas.Slice.Eq.{bytes_eq-Decides}
use Rattle.std.proofs.lemmas.Option.{slice_get_past as get_past}
use Rattle.first_names.specs.declared.places.FirstNames.{FirstNames}
use Rattle.first_names.specs.Places.{place_by, FindsFirst}
use Rattle.bus_texts.specs.declared.vectors.Vector.{Vector}
use Rattle.bus_texts.specs.NamedVectors.{vector_name}
use Rattle.bus_texts.specs.Vectors.{has_name, vector_named}

found_at : {X : Type 0} (p : X → Bool) (xs : List X) → find p xs ≡ option_and_then (slice_get xs) (position p xs)
found_at p xs = find_at p xs ∙ by (nat_lt (position_or_len p xs) (length xs)) refl
  where
    by : (b : Bool) → nat_lt (position_or_len p xs) (length xs) ≡ b
        → slice_get xs (position_or_len p xs) ≡ option_and_then (slice_get xs) (position p xs)
    by true e = sym (ap (λ within. option_and_then (slice_get xs) (cond within (Some (position_or_len p xs)) None)) e)
    by false e =
        let past : length xs ≤ position_or_len p xs = grind (arith, nat_tests) in
        get_past xs (position_or_len p xs) past
        ∙ sym (ap (λ within. option_and_then (slice_get xs) (cond within (Some (position_or_len p xs)) None)) e)

pub same_either_way : (a b : List ℕ) → bytes_eq a b ≡ bytes_eq b a
same_either_way a b = by (bytes_eq a b) (bytes_eq b a) refl refl
  where
    by : (one other : Bool) → bytes_eq a b ≡ one → bytes_eq b a ≡ other → one ≡ other
    by true true e f = refl
    by false false e f = refl
    by true false e f = sym ((bytes_eq-Decides b a).1 (sym ((bytes_eq-Decides a b).0 e))) ∙ f
    by false true e f = sym e ∙ (bytes_eq-Decides a b).1 (sym ((bytes_eq-Decides b a).0 f))

named_place :
    (name : List ℕ) (vectors : List Vector) (found : FirstNames) → FindsFirst vector_name found vectors
    → option_and_then (slice_get vectors) (place_by found name) ≡ find (has_name name) vectors
named_place name vectors found f =
    let same : (λ (vector : Vector). bytes_eq name vector.name) ≡ has_name name = λ i vector. same_either_way name vector.name i
    in
    ap (option_and_then (slice_get vectors)) (f.first name ∙ ap (λ test. position test vectors) same)
    ∙ sym (found_at (has_name name) vectors)

pub named_by :
    (name : List ℕ) (vectors : List Vector) (found : FirstNames) (empty : Bool) (place : Option ℕ)
    → FindsFirst vector_name found vectors
    → empty ≡ (length name == 0) → empty ≡ false → place ≡ place_by found name
    → option_and_then (slice_get vectors) place ≡ vector_named vectors name
named_by name vectors found empty place f e some p =
    ap (option_and_then (slice_get vectors)) p
    ∙ (named_place name vectors found f ∙ sym (ap (λ none. if none then None else find (has_name name) vectors) (sym e ∙ some)))
