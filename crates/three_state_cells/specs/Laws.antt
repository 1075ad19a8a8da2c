-- What holds of the core of every cell with three-state outputs, and of what drives them: laws over the definitions.
use Rattle.std.specs.Prelude.{◌≡◌, ℕ, ◌+◌, ◌*◌, ◌≤◌, All, List, [], ◌∷◌, ◌++◌, length, map, codes, decimal, Option, IsTrue}
use Rattle.liberty_text.specs.declared.time.Unit.{Unit}
use Rattle.liberty_groups.specs.declared.tree.Group.{Group}
use Rattle.cell_machine.specs.declared.pins.Pin.{Pin}
use Rattle.cell_machine.specs.declared.pins.Direction.TheVariants.{Output}
use Rattle.cell_machine.specs.CellData.{CellData}
use Rattle.cell_machine.specs.CellRules.{longest_time, is_in_order, are_outputs}
use Rattle.cell_attributes.specs.Pins.{pins_of}
use Rattle.driven_traces.specs.declared.delays.DrivePath.{DrivePath}
use Rattle.driven_traces.specs.declared.drivers.Driver.{Driver}
use Rattle.core_groups.specs.Outputs.{ThreeStateOutput, three_state_outputs}
use Rattle.core_groups.specs.CoreGroups.{core_group}
use Rattle.three_state_cells.specs.Drivers.{IsDriverOf}
use Rattle.three_state_cells.specs.DrivenCells.{driven_data}

-- the output of the core for the three-state output with this number, from 0, and those for several
abbrev pub enable_output : ℕ → Pin
enable_output number = record { name = codes "-e" ++ decimal (number + 1); direction = Output }

abbrev pub enable_outputs : ℕ → List ThreeStateOutput → List Pin
enable_outputs number [] = []
enable_outputs number (output ∷ outputs) = enable_output number ∷ enable_outputs (number + 1) outputs

-- The pins of the core are those of the cell and behind them one output for each three-state output.
abbrev pub CorePinsAre : Type 0
CorePinsAre = (cell : Group) → pins_of (core_group cell) ≡ pins_of cell ++ enable_outputs 0 (three_state_outputs cell)

-- the outputs of a core keep the rules of cells
abbrev pub KeepsOutputs : CellData → Type 0
KeepsOutputs core = IsTrue (are_outputs core.pins core.groups core.outputs)

-- What drives the three-state outputs of a cell is a driver of its core.
abbrev pub DriversAreOfCores : Type 0
DriversAreOfCores =
    (unit : Option Unit) (number : ℕ) (cell : Group) → KeepsOutputs (driven_data unit number cell).core
    → IsDriverOf (driven_data unit number cell).core (driven_data unit number cell).driver

-- the delays of a path are times
pub record HasTimes (path : DrivePath) : Type 0 where
  pub rise : path.rise ≤ longest_time
  pub fall : path.fall ≤ longest_time

-- The paths of a driver keep limits: their delays are times, they stand in the order of the driven outputs to which they lead,
-- and to none of these there are more than so many.
pub record KeepsLimits (most : ℕ) (driver : Driver) : Type 0 where
  pub times : All HasTimes driver.paths
  pub order : IsTrue (is_in_order (map (λ (path : DrivePath). path.drive) driver.paths))
  pub few : length driver.paths ≤ length driver.drives * most

-- So do those of what drives the three-state outputs of a cell: no two paths to an output begin at one pin.
abbrev pub DriversKeepLimits : Type 0
DriversKeepLimits =
    (unit : Option Unit) (number : ℕ) (cell : Group)
    → KeepsLimits (length (driven_data unit number cell).core.pins) (driven_data unit number cell).driver
