-- The kept times of an input's last events.
use Rattle.std.specs.Prelude.{ℕ, Bool, ◌&&◌, List, [], ◌∷◌, replicate, slice_index_or, slice_set, Option, Some, None}
use Rattle.std.specs.Prelude.{if◌then◌else◌}
use Rattle.trit_cubes.specs.declared.trits.Trit.{Trit}
use Rattle.cell_machine.specs.declared.checks.Edge.{Edge}
use Rattle.cell_machine.specs.declared.checks.Edge.TheVariants as edge
use Rattle.cell_machine.specs.declared.checks.Event.{Event}
use Rattle.cell_machine.specs.declared.changes.Change.{Change}
use Rattle.cell_machine.specs.declared.times.Times.{Times}
use Rattle.cell_machine.specs.Edges.{moves}
use Rattle.cell_machine.specs.History.{inputs_after, value_before}
use Rattle.cell_machine.specs.Report.{InputCheck, happens, opening, is_within}

-- before any event
abbrev pub no_times : Times
no_times = record { event = None; rise = None; fall = None }

-- the time of the last event of this kind
abbrev pub time_of_edge : Edge → Times → Option ℕ
time_of_edge edge.Any t = t.event
time_of_edge edge.Rise t = t.rise
time_of_edge edge.Fall t = t.fall

-- the time of the last event, of the times of all inputs
abbrev pub time_of : Event → List Times → Option ℕ
time_of e ts = time_of_edge e.edge (slice_index_or ts e.pin no_times)

-- this time where the event counts, else the one that was kept
abbrev pub renewed : Bool → ℕ → Option ℕ → Option ℕ
renewed counts at kept = (if counts then Some at else kept)

-- an input's times after it went from a to b at this time
abbrev pub stamped : ℕ → Trit → Trit → Times → Times
stamped at a b t =
    record {
      event = renewed (moves edge.Any a b) at t.event;
      rise = renewed (moves edge.Rise a b) at t.rise;
      fall = renewed (moves edge.Fall a b) at t.fall;
    }

-- the times of all inputs after a change of one that had the value a
abbrev pub times_step : Trit → Change → List Times → List Times
times_step a c ts = slice_set ts c.pin (stamped c.at a c.to (slice_index_or ts c.pin no_times))

-- the times that are kept of n inputs after a history
abbrev pub times_after : ℕ → List Change → List Times
times_after n [] = replicate n no_times
times_after n (c ∷ h) = times_step (value_before (inputs_after n h) c) c (times_after n h)

-- whether a check reports, by the value a that the changed input had, the inputs after the change and the times before
abbrev pub report_by : InputCheck → Trit → List Trit → List Times → Change → Bool
report_by k a v ts c = happens k.second a c && (k.holds v && is_within c.at k.limit (time_of (opening k a c) ts))
