-- The drivers at the outputs of a core: which outputs are driven, and under which enables. This project's rule.
use Rattle.std.specs.Prelude.{◌≡◌, ℕ, ◌+◌, ◌<◌, All, IsTrue, [], length, nat_eq, position, Option, slice_index_or}
use Rattle.cell_machine.specs.CellRules.{is_ascending}
use Rattle.cell_machine.specs.Lines.{Machine}
use Rattle.driven_traces.specs.declared.delays.DrivePath.{DrivePath}
use Rattle.driven_traces.specs.declared.drivers.Driver.{Driver}

-- a path from an input to a driven output
pub record IsPathOf (driver : Driver) (path : DrivePath) : Type 0 where
  pub from : path.from < driver.inputs
  pub drive : path.drive < length driver.drives

-- The driven outputs are outputs, each once and in order, and the paths are from inputs to them.
pub record IsSound (driver : Driver) : Type 0 where
  pub ascending : IsTrue (is_ascending driver.drives)
  pub outputs : All (λ place. place < driver.outputs) driver.drives
  pub paths : All (IsPathOf driver) driver.paths

-- a core has the driver's inputs and outputs, and one more output for each that is driven
pub record IsCoreOf (driver : Driver) (core : Machine) : Type 0 where
  pub inputs : core.inputs ≡ driver.inputs
  pub outputs : core.outputs ≡ driver.outputs + length driver.drives

-- the number of an output among the driven ones, where it is driven
abbrev pub number_of : Driver → ℕ → Option ℕ
number_of driver place = position (λ (driven : ℕ). nat_eq driven place) driver.drives

-- the place of a driven output
abbrev pub place_of : Driver → ℕ → ℕ
place_of driver number = slice_index_or driver.drives number 0

-- where nothing is driven
abbrev pub plain : ℕ → ℕ → Driver
plain inputs outputs = record { inputs = inputs; outputs = outputs; drives = []; paths = [] }
