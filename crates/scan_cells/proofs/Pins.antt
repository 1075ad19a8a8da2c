-- The pins of a view stand in its cell.
use Rattle.std.proofs.Common.{◌≡◌, ℕ, ◌<◌, true, List, [], ◌∷◌, length, map, slice_get, Option, Some, None, is_some, unwrap_or}
use Rattle.std.proofs.Common.{get_or, refl, sym, ◌∙◌, ap}
use Rattle.std.specs.Prelude.{bytes_eq}
use Rattle.std.specs.List.{list_all}
use Rattle.std.proofs.lemmas.Bool.{and_parts, true≢false}
use Rattle.std.proofs.lemmas.List.Quantifiers.{position-Some}
use Rattle.std.proofs.lemmas.Option.{slice_get-get_or}
use Rattle.std.proofs.lemmas.Slice.Eq.{bytes_eq-Decides}
use Rattle.cell_machine.specs.declared.pins.Direction.{Direction}
use Rattle.cell_machine.specs.declared.pins.Direction.TheVariants as direction
use Rattle.cell_machine.specs.declared.pins.Pin.{Pin}
use Rattle.cell_machine.specs.Supports.{AllBelow}
use Rattle.scan_cells.specs.Views.{same_direction, same_pin, number_of, is_among, numbers_of}

directions_are : (a b : Direction) → same_direction a b ≡ true → a ≡ b
directions_are direction.Input direction.Input h = refl
directions_are direction.Output direction.Output h = refl
directions_are direction.Internal direction.Internal h = refl
directions_are direction.Input direction.Output h = absurd (true≢false (sym h))
directions_are direction.Input direction.Internal h = absurd (true≢false (sym h))
directions_are direction.Output direction.Input h = absurd (true≢false (sym h))
directions_are direction.Output direction.Internal h = absurd (true≢false (sym h))
directions_are direction.Internal direction.Input h = absurd (true≢false (sym h))
directions_are direction.Internal direction.Output h = absurd (true≢false (sym h))

-- pins with the same name and direction are equal
pins_are : (a b : Pin) → same_pin a b ≡ true → a ≡ b
pins_are a b h =
    let parts = and_parts (bytes_eq a.name b.name) (same_direction a.direction b.direction) h in
    let names : a.name ≡ b.name = (bytes_eq-Decides a.name b.name).0 parts.0 in
    let directions = directions_are a.direction b.direction parts.1 in
    λ i. record { name = names i; direction = directions i }

found_at : (pins : List Pin) (pin : Pin) (o : Option ℕ) → o ≡ number_of pins pin → is_some o ≡ true
    → slice_get pins (unwrap_or o 0) ≡ Some pin
found_at pins pin None e h = absurd (true≢false (sym h))
found_at pins pin (Some n) e h =
    let found = position-Some (same_pin pin) pins n pin (sym e) in
    slice_get-get_or pins n pin found.0 ∙ ap (λ q. Some q) (sym (pins_are pin (get_or pins n pin) found.1))

below_at : (pins : List Pin) (pin : Pin) (o : Option ℕ) → o ≡ number_of pins pin → is_some o ≡ true → unwrap_or o 0 < length pins
below_at pins pin None e h = absurd (true≢false (sym h))
below_at pins pin (Some n) e h = (position-Some (same_pin pin) pins n pin (sym e)).0

-- the numbers are those of the same pins in the cell
pub pins_found :
    (pins of_view : List Pin) → list_all (is_among pins) of_view ≡ true
    → map (slice_get pins) (numbers_of pins of_view) ≡ map (λ pin. Some pin) of_view
pins_found pins [] h = refl
pins_found pins (pin ∷ more) h =
    let parts = and_parts (is_among pins pin) (list_all (is_among pins) more) h in
    λ i. found_at pins pin (number_of pins pin) refl parts.0 i ∷ pins_found pins more parts.1 i

pub numbers_below : (pins of_view : List Pin) → list_all (is_among pins) of_view ≡ true
    → AllBelow (length pins) (numbers_of pins of_view)
numbers_below pins [] h = tt
numbers_below pins (pin ∷ more) h =
    let parts = and_parts (is_among pins pin) (list_all (is_among pins) more) h in
    (below_at pins pin (number_of pins pin) refl parts.0, numbers_below pins more parts.1)
