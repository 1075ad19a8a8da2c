-- The test view of a scan cell beside the cell (Liberty Reference Manual, `test_cell` group).
use Rattle.std.specs.Prelude.{◌≡◌, ℕ, ◌<◌, Bool, true, false, not, ◌&&◌, ◌||◌, List, length, map, nat_eq, bytes_eq, position}
use Rattle.std.specs.Prelude.{slice_get, Option, Some, is_some, unwrap_or}
use Rattle.std.specs.List.{list_all, list_any}
use Rattle.cell_machine.specs.declared.pins.Direction.{Direction}
use Rattle.cell_machine.specs.declared.pins.Direction.TheVariants as direction
use Rattle.cell_machine.specs.declared.pins.Pin.{Pin}
use Rattle.cell_machine.specs.CellRules.{is_output}
use Rattle.cell_machine.specs.CellData.{CellData, data_of}
use Rattle.scan_cells.specs.declared.views.View.{View}

-- a view without the rules that its cell keeps
pub record ViewData : Type 0 where
  pub cell : CellData
  pub pins : List ℕ
  pub enable : ℕ
  pub active : Bool

abbrev pub view_data : View → ViewData
view_data view = record { cell = data_of view.cell; pins = view.pins; enable = view.enable; active = view.active }

-- equal directions
abbrev pub same_direction : Direction → Direction → Bool
same_direction direction.Input direction.Input = true
same_direction direction.Output direction.Output = true
same_direction direction.Internal direction.Internal = true
same_direction _ _ = false

-- whether two pins have the same name and the same direction
abbrev pub same_pin : Pin → Pin → Bool
same_pin pin other = bytes_eq pin.name other.name && same_direction pin.direction other.direction

-- The number, among these pins, of the one with the name and the direction of a pin, where there is one.
abbrev pub number_of : List Pin → Pin → Option ℕ
number_of pins pin = position (same_pin pin) pins

abbrev pub is_among : List Pin → Pin → Bool
is_among pins pin = is_some (number_of pins pin)

-- the numbers, among these pins, of pins that are all among them
abbrev pub numbers_of : List Pin → List Pin → List ℕ
numbers_of pins of_view = map (λ pin. unwrap_or (number_of pins pin) 0) of_view

-- whether a pin is an output with this name
abbrev pub is_output_named : List ℕ → Pin → Bool
is_output_named name pin = is_output pin.direction && bytes_eq name pin.name

-- whether each output pin has its name among the output pins of others
abbrev pub outputs_within : List Pin → List Pin → Bool
outputs_within pins others = list_all (λ (pin : Pin). not (is_output pin.direction) || list_any (is_output_named pin.name) others)
    pins

-- whether two cells have as many state groups, and the same set of names of outputs
abbrev pub same_outline : CellData → CellData → Bool
same_outline cell other =
    nat_eq (length cell.groups) (length other.groups)
    && (outputs_within cell.pins other.pins && outputs_within other.pins cell.pins)

-- A view stands beside a cell: its pins are those of the cell with the same names and directions, it has as many state
-- groups and the same names of outputs, and its scan enable is a pin of the cell.
pub record StandsBeside (cell : CellData) (view : ViewData) : Type 0 where
  pub pins : map (slice_get cell.pins) view.pins ≡ map (λ pin. Some pin) view.cell.pins
  pub outline : same_outline cell view.cell ≡ true
  pub enable : view.enable < length cell.pins
