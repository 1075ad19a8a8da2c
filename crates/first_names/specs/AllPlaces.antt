-- All places of things that are found by their names.
use Rattle.std.specs.Prelude.{◌≡◌, ℕ, List, [], slice_get, unwrap_or, if◌then◌else◌}
use Rattle.std.specs.Option.{option_and_then}
use Rattle.std.specs.Str.{bytes_eq}
use Rattle.bool_functions.specs.NameList.{number_of}
use Rattle.first_names.specs.declared.all_places.AllPlaces.{AllPlaces}
use Rattle.first_names.specs.PutOnce.{with_place}

-- the places that stand for a name
abbrev pub places_of : AllPlaces → List ℕ → List ℕ
places_of found name = unwrap_or (option_and_then (slice_get found.places.items) (number_of found.names name)) []

-- a name stands for one place more, and every other name for what it stood for
pub record PutsPlace (old : AllPlaces) (name : List ℕ) (place : ℕ) (new : AllPlaces) : Type 0 where
  pub stands :
      (other : List ℕ)
      → places_of new other ≡ (if bytes_eq other name then with_place (places_of old other) place else places_of old other)
