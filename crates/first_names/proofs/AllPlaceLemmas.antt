-- Places that are put behind those of a name.
use Rattle.std.proofs.Common.{◌≡◌, ◌<◌, ℕ, ◌+◌, Bool, true, false, if◌then◌else◌, List, [], ◌∷◌, ◌++◌, get_or, length}
use Rattle.std.proofs.Common.{Option, Some, None, refl, sym, ap, subst, ◌∙◌}
use Rattle.std.specs.Prelude.{slice_get, slice_set, unwrap_or, Result, Ok, Err, OnOk}
use Rattle.std.specs.Option.{option_and_then}
use Rattle.std.specs.Str.{bytes_eq}
use Rattle.std.proofs.lemmas.Option.{slice_get-get_or}
use Rattle.std.proofs.lemmas.Slice.Eq.{bytes_eq-Decides}
use Rattle.bool_functions.specs.NameList.{number_of}
use Rattle.first_names.specs.declared.all_places.AllPlaces.{AllPlaces}
use Rattle.first_names.specs.PutOnce.{with_place}
use Rattle.first_names.specs.AllPlaces.{places_of, PutsPlace}
use Rattle.first_names.proofs.PlaceLemmas.{or_last, added_new, set_at, number_within}

-- a name that has a number stands for one place more
pub put_old : (old new : AllPlaces) (name : List ℕ) (place k : ℕ) (d : List ℕ) → number_of old.names name ≡ Some k
    → new.names ≡ old.names → new.places.items ≡ slice_set old.places.items k (with_place (get_or old.places.items k d) place)
    → PutsPlace old name place new
put_old old new name place k d e n p =
    record {
      stands = λ other. rw (n, p) (ap (λ o. unwrap_or o []) (set_at old.names lists name other k more same e)
          ∙ last other (bytes_eq other name) refl);
    }
  where
    same : length old.places.items ≡ length old.names
    same = old.same_length

    lists : List (List ℕ)
    lists = old.places.items

    more : List ℕ
    more = with_place (get_or lists k d) place

    was : slice_get lists k ≡ Some (get_or lists k d)
    was = slice_get-get_or lists k d (subst (λ n. k < n) (sym same) (number_within old.names name k e))

    last : (other : List ℕ) (b : Bool) → bytes_eq other name ≡ b
        → unwrap_or (if b then Some more else option_and_then (slice_get lists) (number_of old.names other)) []
        ≡ (if b then with_place (places_of old other) place else places_of old other)
    last other true b =
        let equal : other ≡ name = (bytes_eq-Decides other name).0 b in
        sym (ap (λ o. with_place (unwrap_or (option_and_then (slice_get lists) o) []) place) (ap (number_of old.names) equal ∙ e)
        ∙ ap (λ o. with_place (unwrap_or o []) place) was)
    last other false b = refl

-- and one that has none stands for its first
pub put_new : (old new : AllPlaces) (name : List ℕ) (place : ℕ) → number_of old.names name ≡ None
    → new.names ≡ old.names ++ name ∷ [] → new.places.items ≡ old.places.items ++ (place ∷ []) ∷ [] → PutsPlace old name place new
put_new old new name place e n p =
    record {
      stands = λ other. rw (n, p) (ap (λ o. unwrap_or o []) (added_new old.names old.places.items name other (place ∷ []) old.same_length)
          ∙ last other (bytes_eq other name) refl);
    }
  where
    kept : (o : Option (List ℕ)) → unwrap_or (or_last o false (place ∷ [])) [] ≡ unwrap_or o []
    kept None = refl
    kept (Some k) = refl

    last : (other : List ℕ) (b : Bool) → bytes_eq other name ≡ b
        → unwrap_or (or_last (option_and_then (slice_get old.places.items) (number_of old.names other)) b (place ∷ [])) []
        ≡ (if b then with_place (places_of old other) place else places_of old other)
    last other true b =
        let none : number_of old.names other ≡ None = ap (number_of old.names) ((bytes_eq-Decides other name).0 b) ∙ e in
        ap (λ o. unwrap_or (or_last (option_and_then (slice_get old.places.items) o) true (place ∷ [])) []) none
        ∙ sym (ap (λ o. with_place (unwrap_or (option_and_then (slice_get old.places.items) o) []) place) none)
    last other false b = kept (option_and_then (slice_get old.places.items) (number_of old.names other))

-- what a fact of a call that went well comes to
pub where_ok : {X E A B : Type 0} (result : Result X E) → (A → B) → OnOk result A → OnOk result B
where_ok (Ok x) f a = f a
where_ok (Err e) f a = tt
