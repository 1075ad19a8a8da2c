-- The inputs at whose changes the checks of a cell may report.
use Rattle.std.specs.Prelude.{ℕ, List, map}
use Rattle.cell_machine.specs.declared.checks.Check.{Check}
use Rattle.cell_machine.specs.Inputs.{input_number}
use Rattle.cell_machine.specs.CellData.{CellData}

-- for each check the number of its second event's input
abbrev pub check_inputs : CellData → List ℕ
check_inputs cell = map (λ (k : Check). input_number cell.pins k.second.pin) cell.checks
