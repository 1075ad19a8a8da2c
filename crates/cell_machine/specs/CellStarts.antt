-- What is known of a cell before any change.
use Rattle.std.specs.Prelude.{◌≡◌, [], map}
use Rattle.cell_machine.specs.declared.cell_start.CellStart.{CellStart}
use Rattle.cell_machine.specs.CellData.{CellData}
use Rattle.cell_machine.specs.CellTrace.{check_names, arc_names}
use Rattle.cell_machine.specs.CheckInputs.{check_inputs}
use Rattle.cell_machine.specs.ArcPlaces.{AreArcPlaces}
use Rattle.cell_machine.specs.OutputTables.{AreOutputTables}
use Rattle.cell_machine.specs.StepTables.{AreStepTables}
use Rattle.cell_machine.specs.LibertyStands.{shown_after}

-- these are the inputs at whose changes its checks may report, the pins that the conditions of its checks and of its arcs name,
-- the numbers of its arcs by inputs and outputs, the values of its outputs and of its steps at all points, and what its outputs
-- show where nothing changed yet
pub record IsCellStart (cell : CellData) (start : CellStart) : Type 0 where
  pub check_inputs_are : start.check_inputs ≡ check_inputs cell
  pub check_names_are : start.check_names ≡ check_names cell
  pub arc_names_are : start.arc_names ≡ arc_names cell
  pub places_are : AreArcPlaces cell start.places
  pub outputs_are : AreOutputTables cell start.outputs
  pub steps_are : AreStepTables cell start.steps
  pub shown_are : start.shown ≡ map (shown_after cell []) cell.outputs
