-- The run of the process of an entity: what it holds, and how a change of an input takes it on. (IEEE 1076.4-2000, as this
-- project reads it.)
use Rattle.std.specs.Prelude.{Bool, true, false, List, [], ◌∷◌, length, map, replicate, slice_set, if◌then◌else◌}
use Rattle.trit_cubes.specs.declared.trits.Trit.{Trit}
use Rattle.trit_cubes.specs.declared.trits.Trit.TheVariants.{Zero, Unknown}
use Rattle.cell_machine.specs.declared.changes.Change.{Change}
use Rattle.cell_machine.specs.History.{value_before, is_event}
use Rattle.cell_machine.specs.Report.{any_true}
use Rattle.cell_machine.specs.Each.{each}
use Rattle.udp_tables.specs.declared.models.VPort.{VPort}
use Rattle.vital_models.specs.declared.model.VState.{VState}
use Rattle.udp_tables.specs.declared.timing_checks.TimingCheck.{TimingCheck}
use Rattle.vital_models.specs.declared.model.VEntity.{VEntity}
use Rattle.vital_models.specs.LookUps.{lookup_state}
use Rattle.vital_models.specs.Rows.{violated}
use Rattle.run_parts.specs.PortNumbers.{input_count, input_value}
use Rattle.model_traces.specs.SignalTimes.{SignalTimes, no_times, timed, check_reports}

-- what a run holds: the value of each input, each state, for each state the columns with which its table was looked up last, and
-- for each check the times that it keeps
pub record ProcessRun : Type 0 where
  pub inputs : List Trit
  pub states : List Trit
  pub previous : List (List Trit)
  pub times : List SignalTimes

-- the input columns of a state's table at this violation and these inputs
abbrev pub columns : List VPort → Trit → List Trit → VState → List Trit
columns ports violation inputs state =
    violated state.violation violation (map (input_value ports inputs) state.inputs)

-- the input columns of all state tables
abbrev pub all_columns : VEntity → Trit → List Trit → List (List Trit)
all_columns e violation inputs = map (columns e.ports violation inputs) e.states

-- before any change: all inputs, columns and states are X, and no time is kept (this project's rule)
abbrev pub start_process : VEntity → ProcessRun
start_process e =
    record {
      inputs = replicate (input_count e.ports) Unknown;
      states = replicate (length e.states) Unknown;
      previous = all_columns e Unknown (replicate (input_count e.ports) Unknown);
      times = map (λ (k : TimingCheck). no_times k.kind) e.checks;
    }

-- First the input takes its value, and each check is compared, with the times that it kept before.
abbrev pub reports_at : VEntity → ProcessRun → Change → List Bool
reports_at e r c =
    each (check_reports e (slice_set r.inputs c.pin c.to) (value_before r.inputs c) c) e.checks r.times

-- the violation: X where some check reported, else 0
abbrev pub violation_by : Bool → Trit
violation_by true = Unknown
violation_by false = Zero

-- Then each state table is looked up, with the columns that it had before and those that it has now.
abbrev pub looked_up : List VState → List (List Trit) → List (List Trit) → List Trit → List Trit
looked_up [] before now states = []
looked_up (t ∷ ts) [] now states = []
looked_up (t ∷ ts) (b ∷ before) [] states = []
looked_up (t ∷ ts) (b ∷ before) (n ∷ now) [] = []
looked_up (t ∷ ts) (b ∷ before) (n ∷ now) (s ∷ states) =
    lookup_state t.table.rows b n s ∷ looked_up ts before now states

-- the run after an event at which this violation stands
abbrev pub resumed : VEntity → ProcessRun → Change → Trit → ProcessRun
resumed e r c violation =
    record {
      inputs = slice_set r.inputs c.pin c.to;
      states = looked_up e.states r.previous (all_columns e violation (slice_set r.inputs c.pin c.to)) r.states;
      previous = all_columns e violation (slice_set r.inputs c.pin c.to);
      times = each (timed e.ports (value_before r.inputs c) c) e.checks r.times;
    }

-- the run after an event
abbrev pub happened : VEntity → ProcessRun → Change → ProcessRun
happened e r c = resumed e r c (violation_by (any_true (reports_at e r c)))

-- the reports at a change: none where it is no event
abbrev pub step_reports : VEntity → ProcessRun → Change → List Bool
step_reports e r c = (if is_event r.inputs c then reports_at e r c else replicate (length e.checks) false)

-- the run after a history, which has the newest change first; one to the value that the input has does not wake the process
abbrev pub process_after : VEntity → List Change → ProcessRun
process_after e [] = start_process e
process_after e (c ∷ h) = (if is_event (process_after e h).inputs c then happened e (process_after e h) c else process_after e h)
