-- When a module fits a cell, by facts on single changes alone. Its primitives with a state stand for the groups of the cell, in
-- their order; between them any instances may stand, and their inputs may stand in any order.
use Rattle.std.specs.Prelude.{◌≡◌, ℕ, ◌<◌, true, List, length, slice_set}
use Rattle.trit_cubes.specs.declared.trits.Trit.{Trit}
use Rattle.cell_machine.specs.declared.outputs.OutputPin.{OutputPin}
use Rattle.cell_machine.specs.declared.checks.Check.{Check}
use Rattle.cell_machine.specs.declared.changes.Change.{Change}
use Rattle.cell_machine.specs.CellData.{CellData}
use Rattle.cell_machine.specs.History.{value_before, is_event}
use Rattle.cell_machine.specs.CellTrace.{inputs_of, condition_holds, NamedGroup, named_groups, moved, violated}
use Rattle.cell_machine.specs.CellTrace as cell
use Rattle.udp_tables.specs.CellPrimitives.{has_notifier}
use Rattle.specify_blocks.specs.declared.model.VNet.TheVariants as net
use Rattle.specify_blocks.specs.declared.model.Instance.{Instance}
use Rattle.udp_tables.specs.declared.timing_checks.TimingCheck.{TimingCheck}
use Rattle.specify_blocks.specs.declared.model.VModule.{VModule}
use Rattle.model_traces.specs.declared.turns.Turned.TheVariants as turned
use Rattle.model_traces.specs.FitLists.{FitEach}
use Rattle.run_parts.specs.PortNumbers.{input_count, output_ports}
use Rattle.model_traces.specs.NetValues.{net_value}
use Rattle.model_traces.specs.Primitives.{next_state}
use Rattle.model_traces.specs.CheckReports.{is_enabled}
use Rattle.model_traces.specs.CheckFits.{MeasuresSame}
use Rattle.model_traces.specs.PathDelays.{paths_between}
use Rattle.model_traces.specs.ModuleRun.{turn_of, toggled}
use Rattle.model_traces.specs.SequentialStates.{sequential_instances, states_among}

-- An instance fits a group: at each event of one input its next state is the machine's, at every value of the register of the
-- checks, and at each change of that register it is the value to which the inputs force it, else X.
pub record FitsGroup (d : CellData) (m : VModule) (g : NamedGroup) (i : Instance) : Type 0 where
  pub steps :
      (v : List Trit) (c : Change) (note s : Trit)
      → length v ≡ inputs_of d → c.pin < inputs_of d → is_event v c ≡ true
      → next_state m (slice_set v c.pin c.to) note (turn_of v c) i s
      ≡ moved d.pins g (slice_set v c.pin c.to) (value_before v c) c s
  pub forces :
      (v : List Trit) (note s : Trit)
      → length v ≡ inputs_of d → has_notifier d ≡ true
      → next_state m v (toggled note) (record { what = turned.Notifier; from = note }) i s ≡ violated d.pins g v

-- each instance fits the group at its place
abbrev pub FitGroups : CellData → VModule → List NamedGroup → List Instance → Type 0
FitGroups d m = FitEach (FitsGroup d m)

-- A check fits one of the cell: it measures the same, and its condition counts where the cell's does.
pub record FitsCheck (d : CellData) (m : VModule) (k : Check) (j : TimingCheck) : Type 0 where
  pub measures : MeasuresSame d m.ports k j
  pub enabled :
      (v states : List Trit)
      → length v ≡ inputs_of d → length states ≡ length m.instances
      → is_enabled m v states j.condition ≡ condition_holds d.pins v k.condition

-- each check fits the one at its place
abbrev pub FitChecks : CellData → VModule → List Check → List TimingCheck → Type 0
FitChecks d m = FitEach (FitsCheck d m)

-- An output port fits an output of the cell: for all inputs and states it has its value, and from each input the paths to it
-- are active where the cell's arcs are, with their delays.
pub record FitsOutput (d : CellData) (m : VModule) (output : OutputPin) (p : ℕ) : Type 0 where
  pub values :
      (v states : List Trit)
      → length v ≡ inputs_of d → length states ≡ length m.instances
      → net_value m v states (net.Port p) ≡ cell.output_value d.pins d.groups v (states_among m states) output
  pub paths :
      (v states : List Trit) (input : ℕ)
      → length v ≡ inputs_of d → length states ≡ length m.instances
      → paths_between m v states input p ≡ cell.paths_between d.pins d.arcs v input output.pin

-- each output port fits the output at its place
abbrev pub FitOutputs : CellData → VModule → List OutputPin → List ℕ → Type 0
FitOutputs d m = FitEach (FitsOutput d m)

-- A module fits a cell.
pub record ModuleFits (d : CellData) (m : VModule) : Type 0 where
  pub inputs : input_count m.ports ≡ inputs_of d
  pub groups : FitGroups d m (named_groups d) (sequential_instances m)
  pub checks : FitChecks d m d.checks m.checks
  pub outputs : FitOutputs d m d.outputs (output_ports m.ports)
