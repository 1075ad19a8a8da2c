-- When an entity fits a cell, by facts on single changes alone. Its states stand for the groups of the cell, in their order.
use Rattle.std.specs.Prelude.{◌≡◌, ℕ, ◌<◌, true, List, length, slice_set, IsTrue}
use Rattle.trit_cubes.specs.declared.trits.Trit.{Trit}
use Rattle.trit_cubes.specs.declared.trits.Trit.TheVariants.{Zero, Unknown}
use Rattle.cell_machine.specs.declared.outputs.OutputPin.{OutputPin}
use Rattle.cell_machine.specs.declared.checks.Check.{Check}
use Rattle.cell_machine.specs.declared.changes.Change.{Change}
use Rattle.cell_machine.specs.CellData.{CellData}
use Rattle.cell_machine.specs.History.{value_before, is_event}
use Rattle.cell_machine.specs.CellTrace.{inputs_of, condition_holds, NamedGroup, named_groups, moved, violated}
use Rattle.cell_machine.specs.CellTrace as cell
use Rattle.udp_tables.specs.CellPrimitives.{has_notifier}
use Rattle.vital_models.specs.declared.model.VState.{VState}
use Rattle.vital_models.specs.declared.model.VOutput.{VOutput}
use Rattle.udp_tables.specs.declared.timing_checks.TimingCheck.{TimingCheck}
use Rattle.vital_models.specs.declared.model.VEntity.{VEntity}
use Rattle.vital_models.specs.LookUps.{lookup_state}
use Rattle.vital_models.specs.Sound.{has_events}
use Rattle.model_traces.specs.FitLists.{FitEach}
use Rattle.run_parts.specs.PortNumbers.{input_count}
use Rattle.model_traces.specs.CheckFits.{MeasuresSame}
use Rattle.model_traces.specs.ProcessValues.{is_enabled, output_value}
use Rattle.model_traces.specs.GatedPaths.{paths_from}
use Rattle.model_traces.specs.ProcessRun.{columns}

-- A state fits a group: at each event of one input without a violation its table gives the machine's step, whatever the
-- violation was before, and at each event with one it gives the value to which the inputs force it, else X.
pub record FitsGroup (d : CellData) (e : VEntity) (g : NamedGroup) (state : VState) : Type 0 where
  pub steps :
      (v : List Trit) (c : Change) (violation s : Trit)
      → length v ≡ inputs_of d → c.pin < inputs_of d → is_event v c ≡ true
      → lookup_state state.table.rows (columns e.ports violation v state)
      (columns e.ports Zero (slice_set v c.pin c.to) state) s
      ≡ moved d.pins g (slice_set v c.pin c.to) (value_before v c) c s
  pub forces :
      (v : List Trit) (c : Change) (violation s : Trit)
      → length v ≡ inputs_of d → c.pin < inputs_of d → is_event v c ≡ true → has_notifier d ≡ true
      → lookup_state state.table.rows (columns e.ports violation v state)
      (columns e.ports Unknown (slice_set v c.pin c.to) state) s
      ≡ violated d.pins g (slice_set v c.pin c.to)

-- each state fits the group at its place
abbrev pub FitGroups : CellData → VEntity → List NamedGroup → List VState → Type 0
FitGroups d e = FitEach (FitsGroup d e)

-- A check fits one of the cell: it has events of its kind, it measures the same, and its condition counts where the cell's does.
pub record FitsCheck (d : CellData) (e : VEntity) (k : Check) (j : TimingCheck) : Type 0 where
  pub events : IsTrue (has_events j j.kind)
  pub measures : MeasuresSame d e.ports k j
  pub enabled :
      (v : List Trit)
      → length v ≡ inputs_of d → is_enabled e v j.condition ≡ condition_holds d.pins v k.condition

-- each check fits the one at its place
abbrev pub FitChecks : CellData → VEntity → List Check → List TimingCheck → Type 0
FitChecks d e = FitEach (FitsCheck d e)

-- An output fits one of the cell: for all inputs and states it has its value, and from each input the paths to it are active
-- where the cell's arcs are, with their delays.
pub record FitsOutput (d : CellData) (e : VEntity) (output : OutputPin) (o : VOutput) : Type 0 where
  pub values :
      (v states : List Trit)
      → length v ≡ inputs_of d → length states ≡ length e.states
      → output_value e v states o.value ≡ cell.output_value d.pins d.groups v states output
  pub paths :
      (v : List Trit) (input : ℕ)
      → length v ≡ inputs_of d → paths_from e v input o ≡ cell.paths_between d.pins d.arcs v input output.pin

-- each output fits the one at its place
abbrev pub FitOutputs : CellData → VEntity → List OutputPin → List VOutput → Type 0
FitOutputs d e = FitEach (FitsOutput d e)

-- An entity fits a cell.
pub record EntityFits (d : CellData) (e : VEntity) : Type 0 where
  pub inputs : input_count e.ports ≡ inputs_of d
  pub groups : FitGroups d e (named_groups d) e.states
  pub checks : FitChecks d e d.checks e.checks
  pub outputs : FitOutputs d e d.outputs e.outputs
