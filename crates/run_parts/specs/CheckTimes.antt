-- When the timing checks of a model report, by the times that they keep, in both languages. (IEEE 1364-2005, clause 15.)
use Rattle.std.specs.Prelude.{ℕ, Bool, true, false, ◌&&◌, List, Option}
use Rattle.trit_cubes.specs.declared.trits.Trit.{Trit}
use Rattle.cell_machine.specs.declared.changes.Change.{Change}
use Rattle.cell_machine.specs.declared.times.Times.{Times}
use Rattle.cell_machine.specs.declared.checks.Edge.TheVariants as edge
use Rattle.cell_machine.specs.Edges.{is_rise}
use Rattle.cell_machine.specs.Report.{is_period, happens, is_within}
use Rattle.cell_machine.specs.Times.{renewed}
use Rattle.udp_tables.specs.declared.models.VPort.{VPort}
use Rattle.udp_tables.specs.declared.timing_checks.TimingCheck.{TimingCheck}
use Rattle.run_parts.specs.PortNumbers.{input_event}
use Rattle.run_parts.specs.CheckEvents.{second_of}

-- The times that a check keeps after a change of an input that had the value a: of its last first event, and of the last
-- possible rise and the last possible fall of its second event's input.
abbrev pub stamped : List VPort → Trit → Change → TimingCheck → Times → Times
stamped ports a c k s =
    record {
      event = renewed (happens (input_event ports k.first) a c) c.at s.event;
      rise = renewed (happens (input_event ports (second_of k edge.Rise)) a c) c.at s.rise;
      fall = renewed (happens (input_event ports (second_of k edge.Fall)) a c) c.at s.fall;
    }

-- the time of the last event of the same kind as a change, possible rise or not
abbrev pub same_edge : Bool → Times → Option ℕ
same_edge true s = s.rise
same_edge false s = s.fall

-- The time from which a check measures at a change of an input that had the value a: its last first event. A period stands for
-- two checks, one of the possible rises and one of the possible falls.
abbrev pub opened_by : Bool → Trit → Change → Times → Option ℕ
opened_by true a c s = same_edge (is_rise a c.to) s
opened_by false a c s = s.event

abbrev pub opened : TimingCheck → Trit → Change → Times → Option ℕ
opened k a c s = opened_by (is_period k.kind) a c s

-- Whether a check reports at a change of an input that had the value a, by which conditions let their checks count and by the
-- times kept before: the change is its second event, its condition lets it count, and the kept time lies less than the limit
-- before.
abbrev pub reports_where : List VPort → (Option ℕ → Bool) → Trit → Change → TimingCheck → Times → Bool
reports_where ports counts a c k s =
    happens (input_event ports k.second) a c && (counts k.condition && is_within c.at k.limit (opened k a c s))
