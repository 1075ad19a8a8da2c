-- The delays of changes over the arcs of one pair of pins.
use Rattle.std.specs.Prelude.{ℕ, List, Option, Some, None, map, unwrap_or, if◌then◌else◌}
use Rattle.trit_cubes.specs.declared.trits.Trit.{Trit}
use Rattle.trit_cubes.specs.declared.trits.Trit.TheVariants.{Zero, One}
use Rattle.cell_machine.specs.declared.pins.Pin.{Pin}
use Rattle.cell_machine.specs.declared.arcs.Arc.{Arc}
use Rattle.cell_machine.specs.declared.delays.Delays.{Delays}
use Rattle.cell_machine.specs.Edges.{is_rise}
use Rattle.cell_machine.specs.Delay.{path_delay, lesser, least, active_delays}
use Rattle.cell_machine.specs.CellTrace.{is_active, path_of}

-- the delay that an arc among these gives of a change from a to b, there where it is active
abbrev pub arc_delay : List Pin → List Arc → List Trit → Trit → Trit → Arc → Option ℕ
arc_delay pins arcs v a b arc =
    (if is_active pins arcs v arc arc.condition then Some (path_delay a b (path_of pins arcs v arc)) else None)

-- the same of a rise and of a fall
abbrev pub arc_delays : List Pin → List Arc → List Trit → Arc → Delays
arc_delays pins arcs v arc = record { rise = arc_delay pins arcs v Zero One arc; fall = arc_delay pins arcs v One Zero arc }

-- the least delay that these arcs give of a change from a to b, there where one of them is active
abbrev pub least_of : List Pin → List Arc → List Trit → Trit → Trit → List Arc → Option ℕ
least_of pins arcs v a b some = least (active_delays a b (map (path_of pins arcs v) some))

-- the same of a rise and of a fall
abbrev pub least_delays : List Pin → List Arc → List Trit → Delays
least_delays pins arcs v = record { rise = least_of pins arcs v Zero One arcs; fall = least_of pins arcs v One Zero arcs }

-- the lesser ones of two
abbrev pub lesser_delays : Delays → Delays → Delays
lesser_delays d e = record { rise = lesser d.rise e.rise; fall = lesser d.fall e.fall }

-- the delay of a change from a to b, 0 where no arc is active
abbrev pub delay_by : Trit → Trit → Delays → ℕ
delay_by a b d = unwrap_or (if is_rise a b then d.rise else d.fall) 0
