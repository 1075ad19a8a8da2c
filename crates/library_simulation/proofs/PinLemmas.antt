-- The names of a cell's pins, added one after another.
use Rattle.std.proofs.Common.{◌≡◌, ◌<◌, ℕ, ◌+◌, true, false, not, ◌&&◌, if◌then◌else◌, IsTrue, List, [], ◌∷◌, ◌++◌, map, take}
use Rattle.std.proofs.Common.{drop, get_or, length, ◌-◌, nat_le, Option, None, refl, sym, ap, subst, ◌∙◌}
use Rattle.std.specs.Str.{bytes_eq}
use Rattle.std.specs.List.{IsDistinct, AllByRecursion, list_any, list_all}
use Rattle.std.proofs.lemmas.Bool.{and_parts, or_parts, or_from, not-true}
use Rattle.std.proofs.lemmas.List.{take_more, map-append, take-append-drop}
use Rattle.bool_functions.specs.NameList.{number_of, Adds, AreDistinct}
use Rattle.bool_functions.proofs.NameLists.{position-none}
use Rattle.cell_machine.specs.declared.pins.Pin.{Pin}
use Rattle.cell_machine.specs.declared.pins.Direction.{Direction}
use Rattle.cell_machine.specs.CellRules.{is_name, are_distinct, are_pins}
use Rattle.cell_machine.proofs.RuleLemmas.{cell_rules}
use Rattle.three_state_cells.specs.declared.driven_cell.DrivenCell.{DrivenCell}
use Rattle.three_state_cells.specs.Drivers.{own_pins}
use Rattle.library_simulation.specs.PinNames.{same_direction, directed_names, AreNamedApart}
use Rattle.file_models.proofs.NewNames.{others_before, added_name}

abbrev pub name_of_pin : Pin → List ℕ
name_of_pin pin = pin.name

none_equal : (x : List ℕ) (names : List (List ℕ)) → list_any (bytes_eq x) names ≡ false
    → AllByRecursion (λ y. bytes_eq x y ≡ false) names
none_equal x [] h = tt
none_equal x (y ∷ names) h = let parts = or_parts (bytes_eq x y) (list_any (bytes_eq x) names) h
    in (parts.0, none_equal x names parts.1)

all_distinct : (names : List (List ℕ)) → IsTrue (are_distinct names) → AreDistinct names
unfolding IsDistinct
all_distinct [] h = tt
all_distinct (x ∷ names) h =
    let parts = and_parts (not (list_any (bytes_eq x) names)) (are_distinct names) h in
    (none_equal x names (not-true (list_any (bytes_eq x) names) parts.0), all_distinct names parts.1)

pins_apart : (pins : List Pin) → IsTrue (are_pins pins) → AreDistinct (map name_of_pin pins)
pins_apart pins h =
    let few = and_parts (nat_le (length pins) 64)
    (list_all (λ (pin : Pin). is_name pin.name) pins && are_distinct (map (λ (pin : Pin). pin.name) pins)) h in
    let parts = and_parts (list_all (λ (pin : Pin). is_name pin.name) pins) (are_distinct (map (λ (pin : Pin). pin.name) pins))
    few.1 in
    all_distinct (map name_of_pin pins) parts.1

-- some names of such a list
front_part : (P : List ℕ → Type 0) (front back : List (List ℕ)) → AllByRecursion P (front ++ back) → AllByRecursion P front
front_part P [] back h = tt
front_part P (x ∷ front) back h = (h.0, front_part P front back h.1)

front_distinct : (front back : List (List ℕ)) → AreDistinct (front ++ back) → AreDistinct front
unfolding IsDistinct
front_distinct [] back h = tt
front_distinct (x ∷ front) back h = (front_part (λ y. bytes_eq x y ≡ false) front back h.0, front_distinct front back h.1)

-- no two of the first pins have one name where no two of all have one
first_apart : (n : ℕ) (pins : List Pin) → AreNamedApart pins → AreNamedApart (take n pins)
first_apart n pins apart =
    front_distinct (map name_of_pin (take n pins)) (map name_of_pin (drop n pins))
    (subst AreDistinct (ap (map name_of_pin) (sym (take-append-drop n pins)) ∙ map-append name_of_pin (take n pins) (drop n pins))
    apart)

-- no two pins of a cell have one name
pub own_pins_apart : (cell : DrivenCell) → AreNamedApart (own_pins cell.core.pins (length cell.driver.drives))
own_pins_apart cell =
    let rules = cell_rules cell.core in
    first_apart (length cell.core.pins - length cell.driver.drives) cell.core.pins (pins_apart cell.core.pins rules.of_pins)

-- the pins of one direction are some of all
among_some : (direction : Direction) (name : List ℕ) (pins : List Pin) → list_any (bytes_eq name) (map name_of_pin pins) ≡ false
    → list_any (bytes_eq name) (directed_names direction pins) ≡ false
among_some direction name [] h = refl
among_some direction name (pin ∷ pins) h =
    let parts = or_parts (bytes_eq name pin.name) (list_any (bytes_eq name) (map name_of_pin pins)) h in
    elim (same_direction direction pin.direction) as
    (λ b. list_any (bytes_eq name) (if b then pin.name ∷ directed_names direction pins else directed_names direction pins) ≡ false) [
      | true ↦ or_from (bytes_eq name pin.name) (list_any (bytes_eq name) (directed_names direction pins)) parts.0
          (among_some direction name pins parts.1)
      | false ↦ among_some direction name pins parts.1
    ]

names_of_both : (direction : Direction) (front back : List Pin)
    → directed_names direction (front ++ back) ≡ directed_names direction front ++ directed_names direction back
names_of_both direction [] back = refl
names_of_both direction (pin ∷ front) back =
    elim (same_direction direction pin.direction) as
    (λ b. (if b then pin.name ∷ directed_names direction (front ++ back) else directed_names direction (front ++ back)) ≡ (if b
    then pin.name ∷ directed_names direction front else directed_names direction front) ++ directed_names direction back) [
      | true ↦ ap (λ names. pin.name ∷ names) (names_of_both direction front back)
      | false ↦ names_of_both direction front back
    ]

one_pin_more : (direction : Direction) (pins : List Pin) (i : ℕ) (pin : Pin) → i < length pins → pin ≡ get_or pins i pin
    → directed_names direction (take (i + 1) pins) ≡ directed_names direction (take i pins) ++ directed_names direction (pin ∷ [])
one_pin_more direction pins i pin h e =
    ap (directed_names direction) (take_more pins i pin h) ∙ names_of_both direction (take i pins) (get_or pins i pin ∷ [])
    ∙ ap (λ p. directed_names direction (take i pins) ++ directed_names direction (p ∷ [])) (sym e)

-- the next pin has the direction, and its name is added
pub pin_added : (direction : Direction) (pins : List Pin) (i : ℕ) (pin : Pin) (old new : List (List ℕ)) (found : Option ℕ)
    → AreNamedApart pins → i < length pins → pin ≡ get_or pins i pin → same_direction direction pin.direction ≡ true
    → old ≡ directed_names direction (take i pins) → Adds old pin.name found new → new ≡ directed_names direction (take (i + 1) pins)
pin_added direction pins i pin old new found apart h e same before a =
    let others = others_before name_of_pin pins i pin h e apart in
    let none : number_of old pin.name ≡ None =
    ap (λ names. number_of names pin.name) before
    ∙ position-none (bytes_eq pin.name) (directed_names direction (take i pins)) (among_some direction pin.name (take i pins) others)
    in
    let last : directed_names direction (pin ∷ []) ≡ pin.name ∷ [] = ap (λ b. if b then pin.name ∷ [] else []) same in
    added_name old new pin.name found none a ∙ ap (λ names. names ++ pin.name ∷ []) before
    ∙ sym (one_pin_more direction pins i pin h e ∙ ap (λ names. directed_names direction (take i pins) ++ names) last)

-- it has not
pub pin_passed : (direction : Direction) (pins : List Pin) (i : ℕ) (pin : Pin) (names : List (List ℕ))
    → i < length pins → pin ≡ get_or pins i pin → same_direction direction pin.direction ≡ false
    → names ≡ directed_names direction (take i pins) → names ≡ directed_names direction (take (i + 1) pins)
pin_passed direction pins i pin names h e same before =
    let none : directed_names direction (pin ∷ []) ≡ [] = ap (λ b. if b then pin.name ∷ [] else []) same in
    before ∙ sym (one_pin_more direction pins i pin h e ∙ ap (λ more. directed_names direction (take i pins) ++ more) none
    ∙ nothing_more (directed_names direction (take i pins)))
  where
    nothing_more : (names : List (List ℕ)) → names ++ [] ≡ names
    nothing_more [] = refl
    nothing_more (x ∷ names) = ap (λ more. x ∷ more) (nothing_more names)
