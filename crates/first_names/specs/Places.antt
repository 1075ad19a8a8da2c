-- Things that are found by their names.
use Rattle.std.specs.Prelude.{◌≡◌, ℕ, List, [], ◌∷◌, ◌++◌, length, slice_get, Option, Some, None, if◌then◌else◌}
use Rattle.std.specs.List.{position}
use Rattle.std.specs.Option.{option_and_then}
use Rattle.std.specs.Str.{bytes_eq}
use Rattle.bool_functions.specs.NameList.{number_of, Adds}
use Rattle.first_names.specs.declared.places.FirstNames.{FirstNames}

-- the place that stands for a name
abbrev pub place_by : FirstNames → List ℕ → Option ℕ
place_by found name = option_and_then (slice_get found.places) (number_of found.names name)

-- the places with that of a name, where it was new
abbrev pub places_with : Option ℕ → List ℕ → ℕ → List ℕ
places_with (Some i) places place = places ++ place ∷ []
places_with None places place = places

-- a name is added with its place where it is new, and all stays where it is not
pub record AddsPlace (old : FirstNames) (name : List ℕ) (place : ℕ) (new : FirstNames) : Type 0 where
  pub found : Option ℕ
  pub names : Adds old.names name found new.names
  pub places : new.places ≡ places_with found old.places place

-- a name stands for a place from now on, and every other name for what it stood for
pub record SetsPlace (old : FirstNames) (name : List ℕ) (place : ℕ) (new : FirstNames) : Type 0 where
  pub same_length : length new.places ≡ length new.names
  pub stands : (other : List ℕ) → place_by new other ≡ (if bytes_eq other name then Some place else place_by old other)

-- each name stands for the place of the first of these things that has it
pub record FindsFirst {X : Type 0} (name_of : X → List ℕ) (found : FirstNames) (things : List X) : Type 0 where
  pub same_length : length found.places ≡ length found.names
  pub first : (name : List ℕ) → place_by found name ≡ position (λ x. bytes_eq name (name_of x)) things
