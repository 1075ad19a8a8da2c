-- The numbers of a cell's arcs, as a change of an input asks for them.
use Rattle.std.specs.Prelude.{◌≡◌, ℕ, Bool, List, [], map, take, cond, flat_map, slice_get, option_to_list}
use Rattle.std.specs.List.{range_with_len, list_any}
use Rattle.cell_machine.specs.declared.pins.Pin.{Pin}
use Rattle.cell_machine.specs.declared.outputs.OutputPin.{OutputPin}
use Rattle.cell_machine.specs.declared.arc_places.ArcPlaces.{ArcPlaces}
use Rattle.cell_machine.specs.CellData.{CellData}
use Rattle.cell_machine.specs.CellTrace.{inputs_of, arc_names, is_between}
use Rattle.cell_machine.specs.KeptConditions.{names_input}
use Rattle.cell_machine.specs.Places.{places_from}

-- those of the arcs whose conditions name an input
abbrev pub arcs_naming : CellData → ℕ → List ℕ
arcs_naming cell input = places_from (names_input cell.pins input) 0 (arc_names cell)

-- those of the arcs from an input to an output pin
abbrev pub arcs_between : CellData → ℕ → ℕ → List ℕ
arcs_between cell input pin = places_from (is_between cell.pins input pin) 0 cell.arcs

-- the same for each output
abbrev pub arcs_from : CellData → ℕ → List (List ℕ)
arcs_from cell input = map (λ (output : OutputPin). arcs_between cell input output.pin) cell.outputs

-- whether there are names with a number, and one of them is an input's
abbrev pub names_at : List Pin → List (List ℕ) → ℕ → ℕ → Bool
names_at pins named input place = list_any (names_input pins input) (option_to_list (slice_get named place))

-- the first of these numbers where one of the names with these numbers is an input's
abbrev pub first_naming : List Pin → List (List ℕ) → ℕ → List ℕ → List ℕ
first_naming pins named input places = cond (list_any (names_at pins named input) places) (take 1 places) []

-- those of the first arcs of two pins of which some arc's condition names an input
abbrev pub firsts_naming : CellData → ℕ → List ℕ
firsts_naming cell input =
    flat_map (flat_map (first_naming cell.pins (arc_names cell) input)) (map (arcs_from cell) (range_with_len 0 (inputs_of cell)))

-- for each input these are the arcs whose conditions name it, for each input and each output those from the one to the
-- other, and for each input the first arcs of two pins of which some condition names it
pub record AreArcPlaces (cell : CellData) (places : ArcPlaces) : Type 0 where
  pub naming_are : places.naming ≡ map (arcs_naming cell) (range_with_len 0 (inputs_of cell))
  pub between_are : places.between ≡ map (arcs_from cell) (range_with_len 0 (inputs_of cell))
  pub firsts_are : places.firsts ≡ map (firsts_naming cell) (range_with_len 0 (inputs_of cell))
