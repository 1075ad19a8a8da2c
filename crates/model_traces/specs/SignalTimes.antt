-- When the timing checks of a process report, by the times that they keep. (IEEE 1076.4-2000, VitalSetupHoldCheck,
-- VitalRecoveryRemovalCheck and VitalPeriodPulseCheck.)
use Rattle.std.specs.Prelude.{ℕ, Bool, true, false, ◌&&◌, List, Option, None, if◌then◌else◌}
use Rattle.trit_cubes.specs.declared.trits.Trit.{Trit}
use Rattle.cell_machine.specs.declared.changes.Change.{Change}
use Rattle.cell_machine.specs.declared.checks.Edge.{Edge}
use Rattle.cell_machine.specs.declared.checks.Edge.TheVariants as edge
use Rattle.cell_machine.specs.declared.checks.CheckKind.{CheckKind}
use Rattle.cell_machine.specs.declared.checks.CheckKind.TheVariants as check_kind
use Rattle.cell_machine.specs.declared.checks.Event.{Event}
use Rattle.cell_machine.specs.Edges.{is_rise}
use Rattle.cell_machine.specs.Report.{happens, is_within}
use Rattle.cell_machine.specs.Times.{renewed}
use Rattle.udp_tables.specs.declared.models.VPort.{VPort}
use Rattle.udp_tables.specs.declared.timing_checks.TimingCheck.{TimingCheck}
use Rattle.vital_models.specs.declared.model.VEntity.{VEntity}
use Rattle.run_parts.specs.PortNumbers.{input_event}
use Rattle.run_parts.specs.CheckEvents.{second_of}
use Rattle.model_traces.specs.ProcessValues.{is_enabled}

-- The times that a check keeps.
pub data SignalTimes : Type 0 where
  -- of a check of a test signal and a reference signal: its last test event and its last reference event
  Pair : (test reference : Option ℕ) → SignalTimes
  -- of a check of the pulses or the periods of one signal: the last possible rise and the last possible fall
  Edges : (rise fall : Option ℕ) → SignalTimes

-- whether a check has a test signal and a reference signal: a width and a period have one signal
abbrev pub has_reference : CheckKind → Bool
has_reference check_kind.Width = false
has_reference check_kind.Period = false
has_reference _ = true

-- before any event
abbrev pub no_times_by : Bool → SignalTimes
no_times_by true = Pair None None
no_times_by false = Edges None None

abbrev pub no_times : CheckKind → SignalTimes
no_times kind = no_times_by (has_reference kind)

-- whether the reference event of a check is the earlier one, as of a hold and of a removal
abbrev pub is_turned : CheckKind → Bool
is_turned check_kind.Hold = true
is_turned check_kind.Removal = true
is_turned _ = false

-- The test event: the earlier one of a setup and of a recovery, the later one of a hold and of a removal. A check of one signal
-- has none.
abbrev pub test_event : CheckKind → TimingCheck → Event
test_event kind k = (if is_turned kind then k.second else k.first)

-- the reference event: the other one
abbrev pub reference_event : CheckKind → TimingCheck → Event
reference_event kind k = (if is_turned kind then k.first else k.second)

-- The times that a check keeps after a change of an input that had the value a: each of its two events that the change is has
-- the time of the change.
abbrev pub timed : List VPort → Trit → Change → TimingCheck → SignalTimes → SignalTimes
timed ports a c k (Pair test reference) =
    Pair (renewed (happens (input_event ports (test_event k.kind k)) a c) c.at test)
    (renewed (happens (input_event ports (reference_event k.kind k)) a c) c.at reference)
timed ports a c k (Edges rise fall) =
    Edges (renewed (happens (input_event ports (second_of k edge.Rise)) a c) c.at rise)
    (renewed (happens (input_event ports (second_of k edge.Fall)) a c) c.at fall)

-- the kept times of a test signal and a reference signal, and those of a rise and a fall
abbrev pub pair_times : SignalTimes → Option ℕ × Option ℕ
pair_times (Pair test reference) = (test, reference)
pair_times (Edges rise fall) = (None, None)

abbrev pub edge_times : SignalTimes → Option ℕ × Option ℕ
edge_times (Pair test reference) = (None, None)
edge_times (Edges rise fall) = (rise, fall)

-- whether a pulse is high: it begins with a rise
abbrev pub is_high : Edge → Bool
is_high edge.Any = false
is_high edge.Rise = true
is_high edge.Fall = false

-- the end of a pulse: the fall of a high one, the rise of a low one
abbrev pub pulse_end : Bool → Edge
pulse_end true = edge.Fall
pulse_end false = edge.Rise

-- the last possible rise, or the last possible fall
abbrev pub edge_time : Bool → SignalTimes → Option ℕ
edge_time true times = (edge_times times).0
edge_time false times = (edge_times times).1

-- The later event of a check, at which it compares: the reference event of a setup and of a recovery, the test event of a hold
-- and of a removal, the end of a pulse, and each event of a signal whose periods are checked.
abbrev pub later_event : CheckKind → TimingCheck → Event
later_event check_kind.Setup k = reference_event k.kind k
later_event check_kind.Hold k = test_event k.kind k
later_event check_kind.Recovery k = reference_event k.kind k
later_event check_kind.Removal k = test_event k.kind k
later_event check_kind.Width k = second_of k (pulse_end (is_high k.first.edge))
later_event check_kind.Period k = second_of k edge.Any

-- The time from which a check measures at its later event. A high pulse begins with its rise, a low one with its fall; a period
-- lasts from a rise to a rise, or from a fall to a fall.
abbrev pub earlier_time : CheckKind → TimingCheck → Trit → Change → SignalTimes → Option ℕ
earlier_time check_kind.Setup k a c times = (pair_times times).0
earlier_time check_kind.Hold k a c times = (pair_times times).1
earlier_time check_kind.Recovery k a c times = (pair_times times).0
earlier_time check_kind.Removal k a c times = (pair_times times).1
earlier_time check_kind.Width k a c times = edge_time (is_high k.first.edge) times
earlier_time check_kind.Period k a c times = edge_time (is_rise a c.to) times

-- Whether a check reports at a change of an input that had the value a, by the inputs after it and the times kept before it: the
-- change is its later event, its condition lets it count, and the earlier time lies less than the limit before.
abbrev pub check_reports : VEntity → List Trit → Trit → Change → TimingCheck → SignalTimes → Bool
check_reports e inputs a c k times =
    happens (input_event e.ports (later_event k.kind k)) a c
    && (is_enabled e inputs k.condition && is_within c.at k.limit (earlier_time k.kind k a c times))
