-- What holds of every timing that is read: laws over the definitions.
use Rattle.std.specs.Prelude.{◌≡◌, length, nat_eq, nat_lt, IsTrue, None, Ok}
use Rattle.std.specs.List.{list_all}
use Rattle.liberty_groups.specs.declared.tree.Group.{Group}
use Rattle.cell_machine.specs.declared.arcs.Arc.{Arc}
use Rattle.cell_machine.specs.CellRules.{is_check, is_arc, AreApart}
use Rattle.timing_arcs.specs.declared.subject.Subject.{Subject}
use Rattle.timing_arcs.specs.declared.subject.PinTiming.{PinTiming}
use Rattle.timing_arcs.specs.Timing.{reading_answer}

-- The checks that are read keep the rules of a cell's checks, where no condition is too wide: they are between events of
-- input pins as their kind wants them, with a limit from 1 to the longest time, under a condition of 1 to 10 input pins
-- apart from those of the events.
abbrev pub ChecksAreSound : Type 0
ChecksAreSound =
    (subject : Subject) (pin : Group) (timing : PinTiming)
    → reading_answer subject pin ≡ Ok timing → timing.wide ≡ None → IsTrue (list_all (is_check subject.pins) timing.checks)

-- The arcs that are read keep the rules of a cell's arcs, where no condition is too wide: from an input pin to an output
-- pin, with delays up to the longest time, under a condition of 1 to 10 input pins apart from the one where it starts.
abbrev pub ArcsAreSound : Type 0
ArcsAreSound =
    (subject : Subject) (pin : Group) (timing : PinTiming)
    → reading_answer subject pin ≡ Ok timing → timing.wide ≡ None → IsTrue (list_all (is_arc subject.pins) timing.arcs)

-- The arcs that are read end at the pin.
abbrev pub ArcsEndHere : Type 0
ArcsEndHere =
    (subject : Subject) (pin : Group) (timing : PinTiming)
    → reading_answer subject pin ≡ Ok timing → IsTrue (list_all (λ (arc : Arc). nat_eq arc.to subject.place) timing.arcs)

-- No two of the arcs that are read have the same ends and the same condition.
abbrev pub ArcsAreApart : Type 0
ArcsAreApart =
    (subject : Subject) (pin : Group) (timing : PinTiming)
    → reading_answer subject pin ≡ Ok timing → AreApart timing.arcs

-- There is an offset for each check and for each arc, and the left-out groups are among the pin's statements.
pub record IsPlaced (pin : Group) (timing : PinTiming) : Type 0 where
  pub checks : length timing.check_at ≡ length timing.checks
  pub arcs : length timing.arc_at ≡ length timing.arcs
  pub left_out : IsTrue (list_all (λ place. nat_lt place (length pin.items)) timing.left_out)

abbrev pub TimingsArePlaced : Type 0
TimingsArePlaced =
    (subject : Subject) (pin : Group) (timing : PinTiming)
    → reading_answer subject pin ≡ Ok timing → IsPlaced pin timing
