-- The timing checks of a cell's models. Both languages have the same events and limits, and number conditions by their place
-- among the conditions of the cell: a module behind the wires of its states, an entity from 0.
use Rattle.std.specs.Prelude.{ℕ, ◌+◌, List, option_map}
use Rattle.cell_machine.specs.bool_functions.declared.tree.Node.{Node}
use Rattle.cell_machine.specs.declared.pins.Pin.{Pin}
use Rattle.cell_machine.specs.declared.checks.Check.{Check}
use Rattle.cell_machine.specs.CellData.{CellData}
use Rattle.udp_tables.specs.Conditions.{conditions_of, condition_place}
use Rattle.udp_tables.specs.Ports.{event_of}
use Rattle.udp_tables.specs.declared.timing_checks.TimingCheck.{TimingCheck}

-- the timing check of a cell's check with these pins, where the conditions have these numbers
abbrev pub check_by : (Node → ℕ) → List Pin → Check → TimingCheck
check_by number pins k =
    record {
      kind = k.kind;
      first = event_of pins k.first;
      second = event_of pins k.second;
      limit = k.limit;
      condition = option_map number k.condition;
    }

-- the number of one of these conditions, behind so many other things
abbrev pub number_behind : ℕ → List Node → Node → ℕ
number_behind before conditions f = before + condition_place conditions f

-- the timing check of a cell's check, where so many other things are numbered before the conditions
abbrev pub check_behind : ℕ → CellData → Check → TimingCheck
check_behind before cell = check_by (number_behind before (conditions_of cell)) cell.pins
