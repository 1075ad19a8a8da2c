-- Laws of driven traces.
use Rattle.std.specs.Prelude.{◌≡◌, List}
use Rattle.cell_machine.specs.declared.changes.Change.{Change}
use Rattle.cell_machine.specs.Lines.{trace, Machine, IsSized}
use Rattle.stimulus.specs.DriveLines.{lines_along, drive_machine}
use Rattle.driven_traces.specs.declared.drivers.Driver.{Driver}
use Rattle.driven_traces.specs.Drivers.{plain}
use Rattle.driven_traces.specs.DrivenLines.{driven_machine}

-- Of two cores with equal traces on some changes the driven traces on these changes are equal.
abbrev pub EqualCoresDriveEqually : Type 0
EqualCoresDriveEqually =
    (driver : Driver) (one other : Machine) (cs : List Change) → trace one.line cs ≡ trace other.line cs
    → lines_along (driven_machine driver one).line cs ≡ lines_along (driven_machine driver other).line cs

-- Where nothing is driven the driven machine is the core.
abbrev pub NothingDrivenIsCore : Type 0
NothingDrivenIsCore = (core : Machine) → IsSized core → driven_machine (plain core.inputs core.outputs) core ≡ drive_machine core
