-- The ports of a cell by the names of its pins. Inputs are numbered among the input pins and outputs among the output pins, in
-- their order, as the cell's machine numbers them.
use Rattle.std.specs.Prelude.{ℕ, Bool, not, ◌||◌, List, [], ◌∷◌, map, if◌then◌else◌}
use Rattle.bool_functions.specs.NameList.{AreDistinct}
use Rattle.cell_machine.specs.declared.pins.Pin.{Pin}
use Rattle.cell_machine.specs.declared.pins.Direction.{Direction}
use Rattle.cell_machine.specs.declared.pins.Direction.TheVariants.{Input, Output, Internal}
use Rattle.cell_machine.specs.CellRules.{is_input, is_output}
use Rattle.stimulus.specs.declared.ports.Ports.{Ports}
use Rattle.stimulus.specs.declared.ports.Standing.{Standing}

-- two directions are the same
abbrev pub same_direction : Direction → Direction → Bool
same_direction Input other = is_input other
same_direction Output other = is_output other
same_direction Internal other = not (is_input other || is_output other)

-- the names of the pins with this direction
abbrev pub directed_names : Direction → List Pin → List (List ℕ)
directed_names direction [] = []
directed_names direction (pin ∷ pins) =
    if same_direction direction pin.direction then pin.name ∷ directed_names direction pins else directed_names direction pins

-- no two pins have one name
abbrev pub AreNamedApart : List Pin → Type 0
AreNamedApart pins = AreDistinct (map (λ (pin : Pin). pin.name) pins)

-- the ports of a cell that stands so
abbrev pub named_ports : Standing → List Pin → Ports
named_ports standing pins =
    record { standing = standing; inputs = directed_names Input pins; outputs = directed_names Output pins }
