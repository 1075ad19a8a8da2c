-- Places that are put behind others once.
use Rattle.std.specs.Prelude.{ℕ, ◌-◌, Bool, false, nat_eq, List, [], ◌∷◌, ◌++◌, length, slice_get, Option, Some, None, if◌then◌else◌}

-- these places end with a place
abbrev pub is_place : ℕ → Option ℕ → Bool
is_place place None = false
is_place place (Some last) = nat_eq last place

abbrev pub end_with : List ℕ → ℕ → Bool
end_with places place = is_place place (slice_get places (length places - 1))

-- these places, and behind them one with which they do not end yet
abbrev pub with_place : List ℕ → ℕ → List ℕ
with_place places place = if end_with places place then places else places ++ place ∷ []
