-- What the values hold of which the reader of a cell with three-state outputs makes the cell.
use Rattle.std.specs.Prelude.{◌≡◌, ℕ, List, Option, None, Result, IfOk, IfErr}
use Rattle.liberty_text.specs.declared.time.Unit.{Unit}
use Rattle.liberty_groups.specs.declared.tree.Group.{Group}
use Rattle.cell_machine.specs.CellData.{data_of}
use Rattle.cell_reader.specs.declared.read.ReadCell.{ReadCell}
use Rattle.cell_reader.specs.declared.fault.CellFault.{CellFault}
use Rattle.cell_reader.specs.CellTexts.{subject_of, IsCellOf, IsEarlyUnmet, Tells}
use Rattle.cell_reader.specs.Refusals.{left_out_of}
use Rattle.core_groups.specs.declared.outputs.CellPins.{CellPins}
use Rattle.core_groups.specs.Outputs.{ThreeStateOutput, ArePins}
use Rattle.core_groups.specs.CoreGroups.{core_group}
use Rattle.three_state_cells.specs.declared.driven_cell.DrivenCell.{DrivenCell}
use Rattle.three_state_cells.specs.declared.drivers.Drivers.{Drivers}
use Rattle.three_state_cells.specs.Timing.{driver_of, all_left_out, in_pin_order}
use Rattle.three_state_cells.specs.DrivenCells.{core_name, driven_data, driven_data_of}
use Rattle.three_state_cells.specs.Refusals.{driven_refusal}

-- What drives these three-state outputs, where this is the group of the core.
pub record AreDrivers (unit : Option Unit) (core : Group) (outputs : List ThreeStateOutput) (drivers : Drivers) : Type 0 where
  pub driver : drivers.driver ≡ driver_of (subject_of unit core) outputs
  pub left_out : drivers.left_out ≡ all_left_out (subject_of unit core) outputs

-- This is the group of the core of a cell with these pin groups and three-state outputs.
abbrev pub IsCoreOfPins : Group → CellPins → Type 0
IsCoreOfPins core pins = (cell : Group) × ((core ≡ core_group cell) × ArePins cell pins)

-- The core of a cell with these pin groups and three-state outputs, and the cell with this number that was read of it.
pub record IsReadCore (unit : Option Unit) (core : Group) (pins : CellPins) (number : ℕ) (read : ReadCell) : Type 0 where
  pub early : IsEarlyUnmet core
  pub is_core : IsCoreOfPins core pins
  pub cell : IsCellOf (subject_of unit core) number core read.cell
  pub left_out : read.left_out ≡ left_out_of (subject_of unit core) core

-- The cell with this number whose core was read so, under another name, and whose three-state outputs these drive.
pub record IsFloating (read : ReadCell) (drivers : Drivers) (number : ℕ) (cell : DrivenCell) : Type 0 where
  pub core : data_of cell.core ≡ record (data_of read.cell) { name = core_name number }
  pub name : cell.name ≡ read.cell.name
  pub driver : cell.driver ≡ drivers.driver
  pub left_out : cell.left_out ≡ in_pin_order 0 read.cell.pins read.left_out drivers.left_out

-- What is read of the cell with this number that a group describes: exactly that cell, where nothing refuses it, and else why it
-- is refused.
pub record Reads (unit : Option Unit) (earlier : List (List ℕ)) (number : ℕ) (group : Group)
    (read : Result DrivenCell CellFault) : Type 0 where
  pub cell : IfOk read (λ (driven : DrivenCell). driven_data_of driven ≡ driven_data unit number group)
  pub accepted : IfOk read (λ (driven : DrivenCell). driven_refusal unit earlier group ≡ None)
  pub refused : IfErr read (Tells (driven_refusal unit earlier group))
