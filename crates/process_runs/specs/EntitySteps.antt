-- How the simulator of an entity takes its run on. A check keeps the times of a Verilog module's, of which those of the process
-- are a part, and in place of the columns of the last event their inputs and the violation are kept.
use Rattle.std.specs.Prelude.{◌≡◌, ◌<◌, ℕ, Bool, false, List, length, map, replicate, slice_set, None, if◌then◌else◌}
use Rattle.trit_cubes.specs.declared.trits.Trit.{Trit}
use Rattle.trit_cubes.specs.declared.trits.Trit.TheVariants.{Unknown}
use Rattle.cell_machine.specs.declared.changes.Change.{Change}
use Rattle.cell_machine.specs.Each.{each}
use Rattle.cell_machine.specs.History.{value_before, is_event}
use Rattle.cell_machine.specs.Report.{any_true}
use Rattle.cell_machine.specs.Times.{no_times}
use Rattle.vital_models.specs.declared.model.VState.{VState}
use Rattle.vital_models.specs.declared.model.VOutput.{VOutput}
use Rattle.vital_models.specs.declared.model.VEntity.{VEntity}
use Rattle.vital_models.specs.LookUps.{lookup_state}
use Rattle.model_traces.specs.PortNumbers.{input_count}
use Rattle.model_traces.specs.CheckTimes.{stamped, reports_where}
use Rattle.model_traces.specs.Laws.{last_stamps}
use Rattle.model_traces.specs.ProcessValues.{is_enabled, output_value}
use Rattle.model_traces.specs.GatedPaths.{delay_at}
use Rattle.model_traces.specs.ProcessRun.{ProcessRun, columns, all_columns, process_after}
use Rattle.model_traces.specs.EntityTrace.{output_after, delay_after, reports_after}
use Rattle.run_parts.specs.declared.shown.ShownPort.{ShownPort}
use Rattle.process_runs.specs.declared.process_run.ProcessState.{ProcessState}
use Rattle.process_runs.specs.EntityRooms.{IsSound, HasRoom}
use Rattle.process_runs.specs.KeptConditions.{condition_values}
pub use Rattle.model_traces.specs.ProcessRun.{violation_by}
pub use Rattle.model_traces.specs.EntityTrace.{entity_machine}
pub use Rattle.process_runs.specs.EntitySized.{entity_sized}

-- before any change: all inputs, states and the violation are X, and no time is kept
abbrev pub start_state : VEntity → ProcessState
start_state e =
    record {
      inputs = replicate (input_count e.ports) Unknown;
      before = replicate (input_count e.ports) Unknown;
      states = replicate (length e.states) Unknown;
      violation = Unknown;
      stamps = replicate (length e.checks) no_times;
    }

-- the next state, where the violation and the inputs were these before and are those now
abbrev pub next_by : VEntity → Trit → List Trit → Trit → List Trit → VState → Trit → Trit
next_by e was before violation inputs t s =
    lookup_state t.table.rows (columns e.ports was before t) (columns e.ports violation inputs t) s

-- the reports at an event
abbrev pub event_reports : VEntity → ProcessState → Change → List Bool
event_reports e r c =
    each (reports_where e.ports (is_enabled e (slice_set r.inputs c.pin c.to)) (value_before r.inputs c) c) e.checks r.stamps

-- the run after an event at which this violation stands
abbrev pub event_step : VEntity → ProcessState → Change → Trit → ProcessState
event_step e r c violation =
    record {
      inputs = slice_set r.inputs c.pin c.to;
      before = slice_set r.before c.pin c.to;
      states = each (next_by e r.violation r.before violation (slice_set r.inputs c.pin c.to)) e.states r.states;
      violation = violation;
      stamps = each (stamped e.ports (value_before r.inputs c) c) e.checks r.stamps;
    }

-- the run after a change
abbrev pub state_step : VEntity → ProcessState → Change → ProcessState
state_step e r c = (if is_event r.inputs c then event_step e r c (violation_by (any_true (event_reports e r c))) else r)

-- the reports at a change
abbrev pub change_reports : VEntity → ProcessState → Change → List Bool
change_reports e r c = (if is_event r.inputs c then event_reports e r c else replicate (length e.checks) false)

-- what an output shows after a change of an input, by what it showed before
abbrev pub output_step : VEntity → List Trit → List Trit → ℕ → VOutput → ShownPort → ShownPort
output_step e inputs states input output was =
    record {
      port = output.port;
      value = output_value e inputs states output.value;
      delay = delay_at e inputs input output was.value (output_value e inputs states output.value);
    }

-- what an output shows at the start
abbrev pub output_first : VEntity → List Trit → List Trit → VOutput → ShownPort
output_first e inputs states output =
    record { port = output.port; value = output_value e inputs states output.value; delay = None }

-- what an output shows after a history
abbrev pub output_shown : VEntity → List Change → VOutput → ShownPort
output_shown e h output = record { port = output.port; value = output_after e h output; delay = delay_after e h output }

-- the run has a state for each state and kept times for each check, and two lists of the inputs
pub record HasParts (e : VEntity) (r : ProcessState) : Type 0 where
  pub states : length r.states ≡ length e.states
  pub stamps : length r.stamps ≡ length e.checks
  pub before : length r.before ≡ length r.inputs

-- A run of an entity, with the values of its conditions, with the reports of its checks and with room for the columns of any
-- table, before a change and after it.
pub record IsReady (e : VEntity) (run : ProcessState) (conditions : List Trit) (reports : List Bool) (before after : ℕ) :
    Type 0 where
  pub sound : IsSound e
  pub current : conditions ≡ condition_values e run.inputs
  pub earlier : HasRoom before e
  pub room : HasRoom after e
  pub each_input : length run.inputs ≡ input_count e.ports
  pub one_each : HasParts e run
  pub one_report : length reports ≡ length e.checks

-- The same, where this input changes.
pub record CanTake (e : VEntity) (run : ProcessState) (conditions : List Trit) (reports : List Bool) (before after pin : ℕ) :
    Type 0 where
  pub ready : IsReady e run conditions reports before after
  pub inside : pin < length run.inputs

-- The fields of a simulator's run, but for the kept times, are those of the process's run.
pub record IsTied (e : VEntity) (run : ProcessState) (process : ProcessRun) : Type 0 where
  pub inputs_are : run.inputs ≡ process.inputs
  pub before_are : run.before ≡ process.inputs
  pub states_are : run.states ≡ process.states
  pub columns_are : process.previous ≡ all_columns e run.violation run.before

-- The simulator of an entity stands after a history: its fields are what the run of the process gives there.
pub record EntityStands (e : VEntity) (run : ProcessState) (reports : List Bool) (shown : List ShownPort) (h : List Change) :
    Type 0 where
  pub tied : IsTied e run (process_after e h)
  pub stamps_are : run.stamps ≡ map (last_stamps e.ports (input_count e.ports) h) e.checks
  pub reports_are : reports ≡ reports_after e h
  pub shown_are : shown ≡ map (output_shown e h) e.outputs
