-- The events that the timing checks of a model see, in both languages.
use Rattle.std.specs.Prelude.{Bool, true, false}
use Rattle.trit_cubes.specs.declared.trits.Trit.{Trit}
use Rattle.cell_machine.specs.declared.changes.Change.{Change}
use Rattle.cell_machine.specs.declared.checks.Edge.{Edge}
use Rattle.cell_machine.specs.declared.checks.Event.{Event}
use Rattle.cell_machine.specs.Edges.{edge_of}
use Rattle.udp_tables.specs.declared.timing_checks.TimingCheck.{TimingCheck}

-- an event of the input of a check's second event: of a width and of a period, of the signal whose pulses or periods are checked
abbrev pub second_of : TimingCheck → Edge → Event
second_of k e = record { pin = k.second.pin; edge = e }

-- the event from which a check measures, by whether it is one of a period: its first one, of a period the event of the change's
-- own kind
abbrev pub opening_event : Bool → TimingCheck → Trit → Change → Event
opening_event true k a c = second_of k (edge_of a c.to)
opening_event false k a c = k.first
