-- The relation between the fields of a cell's simulator and a history.
use Rattle.std.specs.Prelude.{◌≡◌, ℕ, Bool, List, map}
use Rattle.trit_cubes.specs.declared.trits.Trit.{Trit}
use Rattle.cell_machine.specs.declared.outputs.OutputPin.{OutputPin}
use Rattle.cell_machine.specs.declared.changes.Change.{Change}
use Rattle.cell_machine.specs.declared.times.Times.{Times}
use Rattle.cell_machine.specs.declared.shown.Shown.{Shown}
use Rattle.cell_machine.specs.CellData.{CellData}
use Rattle.cell_machine.specs.History.{inputs_after}
use Rattle.cell_machine.specs.Times.{times_after}
use Rattle.cell_machine.specs.CellTrace.{inputs_of, check_names, arc_names, reports_of, states_after, output_after, delay_after}
use Rattle.cell_machine.specs.declared.kept_arcs.KeptArcs.{KeptArcs}
use Rattle.cell_machine.specs.KeptArcs.{AreKeptArcs}
pub use Rattle.cell_machine.specs.Sized.{cell_machine_sized}

-- what an output shows after a history
abbrev pub shown_after : CellData → List Change → OutputPin → Shown
shown_after cell h output = record { value = output_after cell h output; delay = delay_after cell h output }

-- The simulator of a cell stands after a history: its fields are what the machine gives there, and what it keeps
-- of the arcs is right there.
pub record Stands (cell : CellData) (names_of_checks names_of_arcs : List (List ℕ)) (inputs : List Trit)
    (times : List Times) (states : List Trit) (reports : List Bool) (shown : List Shown) (kept : KeptArcs)
    (h : List Change) : Type 0 where
  pub check_names_are : names_of_checks ≡ check_names cell
  pub arc_names_are : names_of_arcs ≡ arc_names cell
  pub inputs_are : inputs ≡ inputs_after (inputs_of cell) h
  pub times_are : times ≡ times_after (inputs_of cell) h
  pub states_are : states ≡ states_after cell h
  pub reports_are : reports ≡ reports_of cell h
  pub shown_are : shown ≡ map (shown_after cell h) cell.outputs
  pub kept_are : AreKeptArcs cell inputs kept
