-- What a cell's simulator keeps of the cell's arcs.
use Rattle.std.specs.Prelude.{◌≡◌, ℕ, ◌<◌, List, length, Option, Some, slice_get}
use Rattle.trit_cubes.specs.declared.trits.Trit.{Trit}
use Rattle.cell_machine.specs.declared.outputs.OutputPin.{OutputPin}
use Rattle.cell_machine.specs.declared.delays.Delays.{Delays}
use Rattle.cell_machine.specs.declared.kept_arcs.KeptArcs.{KeptArcs}
use Rattle.cell_machine.specs.CellData.{CellData}
use Rattle.cell_machine.specs.CellTrace.{inputs_of}
use Rattle.cell_machine.specs.Places.{entries_at}
use Rattle.cell_machine.specs.ArcDelay.{least_delays}
use Rattle.cell_machine.specs.ArcPlaces.{arcs_between}
use Rattle.cell_machine.specs.KeptConditions.{AreKept, AreConditions}

-- these are the numbers of the arcs from some input to some output
pub record IsPair (cell : CellData) (places : List ℕ) : Type 0 where
  pub input : ℕ
  pub place : ℕ
  pub output : OutputPin
  pub is_input : input < inputs_of cell
  pub is_output : slice_get cell.outputs place ≡ Some output
  pub are : places ≡ arcs_between cell input output.pin

-- these are the least delays of the arcs from an input to an output of which the first one has a number
abbrev pub AreDelaysAt : CellData → List Trit → ℕ → Delays → Type 0
AreDelaysAt cell v i delays =
    (input place : ℕ) (output : OutputPin)
    → input < inputs_of cell → slice_get cell.outputs place ≡ Some output
    → slice_get (arcs_between cell input output.pin) 0 ≡ Some i
    → delays ≡ least_delays cell.pins (entries_at cell.arcs (arcs_between cell input output.pin)) v

-- least delays that are kept at these values of the inputs
abbrev pub AreDelays : CellData → List Trit → List (Option Delays) → Type 0
AreDelays cell v kept = AreKept (AreDelaysAt cell v) (length cell.arcs) kept

-- what is kept of the arcs is right at these values of the inputs
pub record AreKeptArcs (cell : CellData) (v : List Trit) (kept : KeptArcs) : Type 0 where
  pub conditions_are : AreConditions cell.pins v cell.arcs kept.conditions
  pub delays_are : AreDelays cell v kept.delays
