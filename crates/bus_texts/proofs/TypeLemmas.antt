-- The last type of a name stands at the place that is kept for the name.
use Rattle.std.proofs.Common.{◌≡◌, ◌<◌, ℕ, zero, suc, ◌+◌, Bool, true, false, List, [], ◌∷◌, ◌++◌, length, Option, Some, None}
use Rattle.std.proofs.Common.{if◌then◌else◌, refl, sym, ap, subst, ◌∙◌, arith, length-append, slice_get}
use Rattle.std.specs.Prelude.{IfSome, bytes_eq}
use Rattle.std.specs.Option.{option_and_then}
use Rattle.liberty_groups.specs.Attributes.{last_or}
use Rattle.first_names.specs.declared.places.FirstNames.{FirstNames}
use Rattle.first_names.specs.Places.{place_by, SetsPlace}
use Rattle.bus_texts.specs.declared.bus_types.BusType.{BusType}
use Rattle.bus_texts.specs.BusTypes.{types_named, last_type, FindsLast}
use Rattle.bus_texts.proofs.NamedLemmas.{same_either_way}

-- the last of some types and one more
last_more : (name : List ℕ) (found : Option BusType) (types : List BusType) (kind : BusType)
    → last_or found (types_named name (types ++ kind ∷ [])) ≡ (if bytes_eq kind.name name then Some kind
    else last_or found (types_named name types))
last_more name found [] kind =
    elim (bytes_eq kind.name name) as (λ b. last_or found (if b then kind ∷ [] else []) ≡ (if b then Some kind else found)) [
      | true ↦ refl
      | false ↦ refl
    ]
last_more name found (first ∷ types) kind =
    elim (bytes_eq first.name name) as
    (λ b. last_or found (if b then first ∷ types_named name (types ++ kind ∷ []) else types_named name (types ++ kind ∷ []))
    ≡ (if bytes_eq kind.name name then Some kind
    else last_or found (if b then first ∷ types_named name types else types_named name types))) [
      | true ↦ last_more name (Some first) types kind
      | false ↦ last_more name found types kind
    ]

-- a place in a list, and in one with another type behind it
get_before : (types : List BusType) (kind : BusType) (place : ℕ) → place < length types
    → slice_get (types ++ kind ∷ []) place ≡ slice_get types place
get_before [] kind place h = absurd (omega (arith, h))
get_before (first ∷ types) kind zero h = refl
get_before (first ∷ types) kind (suc place) h = get_before types kind place (omega (arith, h))

pub get_last : (types : List BusType) (kind : BusType) → slice_get (types ++ kind ∷ []) (length types) ≡ Some kind
get_last [] kind = refl
get_last (first ∷ types) kind = get_last types kind

get_kept : (types : List BusType) (kind : BusType) (place : Option ℕ) → IfSome place (λ at. at < length types)
    → option_and_then (slice_get (types ++ kind ∷ [])) place ≡ option_and_then (slice_get types) place
get_kept types kind None h = refl
get_kept types kind (Some at) h = get_before types kind at h

-- with one type more
pub finds_more : (old new : FirstNames) (types : List BusType) (kind : BusType) → FindsLast old types
    → SetsPlace old kind.name (length types) new
    → FindsLast new (types ++ kind ∷ [])
finds_more old new types kind f s =
    record {
      same_length = s.same_length;
      within = λ name. subst (λ o. IfSome o (λ place. place < length (types ++ kind ∷ []))) (sym (s.stands name))
          (inside name (bytes_eq name kind.name));
      last_one = λ name. ap (option_and_then (slice_get (types ++ kind ∷ []))) (s.stands name)
          ∙ found name (bytes_eq name kind.name) refl;
    }
  where
    longer : length (types ++ kind ∷ []) ≡ length types + 1
    longer = length-append types (kind ∷ [])

    further : (place : Option ℕ) → IfSome place (λ at. at < length types) → IfSome place (λ at. at < length (types ++ kind ∷ []))
    further None h = tt
    further (Some at) h = omega (arith, h, longer)

    inside : (name : List ℕ) (b : Bool)
        → IfSome (if b then Some (length types) else place_by old name) (λ place. place < length (types ++ kind ∷ []))
    inside name true = omega (arith, longer)
    inside name false = further (place_by old name) (f.within name)

    found : (name : List ℕ) (b : Bool) → bytes_eq name kind.name ≡ b
        → option_and_then (slice_get (types ++ kind ∷ [])) (if b then Some (length types) else place_by old name) ≡ last_type name
        (types ++ kind ∷ [])
    found name true b =
        get_last types kind
        ∙ sym (last_more name None types kind ∙ ap (λ same. if same then Some kind else last_type name types)
        (same_either_way kind.name name ∙ b))
    found name false b =
        get_kept types kind (place_by old name) (f.within name) ∙ f.last_one name
        ∙ sym (last_more name None types kind ∙ ap (λ same. if same then Some kind else last_type name types)
        (same_either_way kind.name name ∙ b))
