-- The pins of a cell keep the rules of pins where nothing refuses them.
use Rattle.std.proofs.Common.{IsTrue, ◌≡◌, ℕ, zero, suc, ◌+◌, ◌≤◌, List, [], ◌∷◌, length, map, refl, ap, arith, nat_le}
use Rattle.std.proofs.Common.{length-append}
use Rattle.std.specs.Prelude.{flat_map}
use Rattle.std.specs.List.{list_all}
use Rattle.std.proofs.lemmas.List.{length-map}
use Rattle.std.proofs.lemmas.Bool.{and_from, le-leb}
use Rattle.liberty_groups.specs.declared.tree.Group.{Group}
use Rattle.cell_machine.specs.declared.pins.Pin.{Pin}
use Rattle.cell_machine.specs.CellRules.{is_name, are_distinct, are_pins}
use Rattle.cell_attributes.specs.Groups.{inner_groups, pin_groups}
use Rattle.cell_attributes.specs.Pins.{pins_in, pins_of, pin_names, owners_in, owners_of}
use Rattle.cell_attributes.specs.Declarations.{declared_of, clashes_after, known_cell, bad_cell_name, bad_name_in, bad_names}
use Rattle.cell_attributes.specs.Declarations.{duplicates}
use Rattle.cell_attributes.specs.Limits.{first_past, place_of_group}
use Rattle.cell_attributes.proofs.Distinct.{nil_parts, pins_are_named, pins_are_distinct}

-- where none passes the limit there are no more
pub within_limit : (limit : ℕ) (offsets : List ℕ) → first_past limit offsets ≡ [] → length offsets ≤ limit
within_limit limit [] h = omega arith
within_limit zero (x ∷ xs) h = absurd cc
within_limit (suc limit) (x ∷ xs) h = let k : length xs ≤ limit = within_limit limit xs h in omega arith

pub owners_count : (groups : List Group) → length (flat_map owners_in groups) ≡ length (flat_map pins_in groups)
owners_count [] = refl
owners_count (group ∷ groups) =
    let later = owners_count groups in
    let first : length (flat_map owners_in groups) ≡ length (flat_map pins_in groups) = later in
    simp (length-append, length-map) (ap (λ n. length group.arguments + n) first)

pub pins_are_sound :
    (earlier : List (List ℕ)) (cell : Group)
    → duplicates earlier cell ≡ [] → bad_names cell ≡ [] → first_past 64 (map place_of_group (owners_of cell)) ≡ []
    → IsTrue (are_pins (pins_of cell))
pins_are_sound earlier cell twice bad many =
    let clash = nil_parts (known_cell earlier cell) (clashes_after [] (declared_of cell)) twice in
    let named = nil_parts (bad_cell_name cell) (flat_map bad_name_in (declared_of cell)) bad in
    let offsets : length (map place_of_group (owners_of cell)) ≤ 64 = within_limit 64 (map place_of_group (owners_of cell)) many
    in
    let count : length (owners_of cell) ≤ 64 = simp length-map at offsets in
    let owners : length (owners_of cell) ≡ length (pins_of cell) = owners_count (pin_groups cell) in
    let few : length (pins_of cell) ≤ 64 = omega arith in
    and_from (nat_le (length (pins_of cell)) 64) _ (le-leb (length (pins_of cell)) 64 few)
    (and_from (list_all (λ (pin : Pin). is_name pin.name) (pins_of cell)) (are_distinct (pin_names (pins_of cell)))
    (pins_are_named (inner_groups cell.items) named.1) (pins_are_distinct (inner_groups cell.items) clash.1))
