-- Laws of the runs of processes: what a run keeps is what the whole history says.
use Rattle.std.specs.Prelude.{◌≡◌, ℕ, Bool, true, false, List, IsTrue}
use Rattle.trit_cubes.specs.declared.trits.Trit.{Trit}
use Rattle.cell_machine.specs.declared.changes.Change.{Change}
use Rattle.cell_machine.specs.declared.checks.Edge.TheVariants as edge
use Rattle.cell_machine.specs.Report.{is_period, last_event}
use Rattle.udp_tables.specs.declared.models.VPort.{VPort}
use Rattle.udp_tables.specs.declared.timing_checks.TimingCheck.{TimingCheck}
use Rattle.vital_models.specs.declared.model.VEntity.{VEntity}
use Rattle.vital_models.specs.Sound.{has_events}
use Rattle.run_parts.specs.PortNumbers.{input_event}
use Rattle.model_traces.specs.Laws.{HoldInputs, KeepLastEvents}
use Rattle.run_parts.specs.CheckEvents.{second_of, opening_event}
use Rattle.model_traces.specs.SignalTimes.{SignalTimes, Pair, Edges, has_reference, test_event, reference_event, later_event}
use Rattle.model_traces.specs.SignalTimes.{earlier_time}
use Rattle.model_traces.specs.ProcessRun.{all_columns, process_after}

-- the times of a check's last events in a history of n inputs
abbrev pub last_times_by : Bool → List VPort → ℕ → List Change → TimingCheck → SignalTimes
last_times_by true ports n h k =
    Pair (last_event n (input_event ports (test_event k.kind k)) h)
    (last_event n (input_event ports (reference_event k.kind k)) h)
last_times_by false ports n h k =
    Edges (last_event n (input_event ports (second_of k edge.Rise)) h)
    (last_event n (input_event ports (second_of k edge.Fall)) h)

abbrev pub last_times : List VPort → ℕ → List Change → TimingCheck → SignalTimes
last_times ports n h k = last_times_by (has_reference k.kind) ports n h k

-- a run holds the values that the changes gave to the inputs
abbrev pub ProcessHoldsInputs : Type 0
ProcessHoldsInputs = HoldInputs (λ (e : VEntity). e.ports) (λ e h. (process_after e h).inputs)

-- each check keeps the times of its last events in the whole history
abbrev pub ProcessKeepsLastEvents : Type 0
ProcessKeepsLastEvents = KeepLastEvents (λ (e : VEntity). e.ports) (λ e. e.checks) last_times (λ e h. (process_after e h).times)

-- The columns that a run keeps are those of the inputs that it holds, at some violation.
abbrev pub ProcessKeepsColumns : Type 0
ProcessKeepsColumns =
    (e : VEntity) (h : List Change)
    → (violation : Trit) × ((process_after e h).previous ≡ all_columns e violation (process_after e h).inputs)

-- The later event of a check with the events of its kind is its second event, as in Verilog.
abbrev pub LaterEventIsSecond : Type 0
LaterEventIsSecond = (k : TimingCheck) → IsTrue (has_events k k.kind) → later_event k.kind k ≡ k.second

-- The time from which a check with the events of its kind measures is that of the last event from which it measures in Verilog.
abbrev pub EarlierTimeIsFirst : Type 0
EarlierTimeIsFirst =
    (ports : List VPort) (n : ℕ) (h : List Change) (a : Trit) (c : Change) (k : TimingCheck)
    → IsTrue (has_events k k.kind)
    → earlier_time k.kind k a c (last_times ports n h k)
    ≡ last_event n (input_event ports (opening_event (is_period k.kind) k a c)) h
