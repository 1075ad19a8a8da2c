-- Worked driven traces: a buffer that is driven while its input is 0, and one with an enable of its own and with delays.
use Rattle.std.specs.Prelude.{◌≡◌, refl, ℕ, List, [], ◌∷◌, Option, Some, None, slice_index_or}
use Rattle.trit_cubes.specs.declared.trits.Trit.{Trit}
use Rattle.trit_cubes.specs.declared.trits.Trit.TheVariants.{Zero, One, Unknown}
use Rattle.cell_machine.specs.declared.changes.Change.{Change}
use Rattle.cell_machine.specs.History.{inputs_after}
use Rattle.cell_machine.specs.Lines.{Line}
use Rattle.stimulus.specs.declared.drives.Drive.{Drive}
use Rattle.stimulus.specs.declared.drives.Drive.TheVariants as drive
use Rattle.stimulus.specs.DriveLines.{DriveLine, lines_along}
use Rattle.driven_traces.specs.declared.drivers.Driver.{Driver}
use Rattle.driven_traces.specs.DrivenLines.{driven_line}

inverse : Trit → Trit
inverse Zero = One
inverse One = Zero
inverse Unknown = Unknown

-- the line of a core with these values and no delays
core_line : List Trit → List (Option ℕ) → Line
core_line values delays = record { values = values; delays = delays; reports = [] }

-- a line of one output
shows : Drive → Option ℕ → DriveLine
shows value delay = record { values = value ∷ []; delays = delay ∷ []; reports = [] }

change : ℕ → ℕ → Trit → Change
change at pin to = record { at = at; pin = pin; to = to }

-- Y shows A where A is 0, and floats where A is 1.
own_enable : Driver
own_enable = record { inputs = 1; outputs = 1; drives = 0 ∷ []; paths = [] }

own_core : List Change → Line
own_core h =
    let a = slice_index_or (inputs_after 1 h) 0 Unknown in core_line (a ∷ inverse a ∷ []) (None ∷ None ∷ [])

own_trace :
    lines_along (driven_line own_enable own_core) (change 5 0 Zero ∷ change 6 0 One ∷ change 7 0 Unknown ∷ [])
    ≡ shows drive.Unknown None ∷ shows drive.Zero (Some 0) ∷ shows drive.Floating (Some 0) ∷ shows drive.Unknown (Some 0) ∷ []
unfolding inverse core_line shows change own_enable own_core
own_trace = refl

-- Y shows A where OE is 1, with delays of 5 and 7 from A and of 11 and 13 from OE.
enabled : Driver
enabled = record {
  inputs = 2;
  outputs = 1;
  drives = 0 ∷ [];
  paths = record { from = 0; drive = 0; rise = 5; fall = 7 } ∷ record { from = 1; drive = 0; rise = 11; fall = 13 } ∷ [];
}

enabled_core : List Change → Line
enabled_core h = core_line (inputs_after 2 h) (None ∷ None ∷ [])

enabled_trace :
    lines_along (driven_line enabled enabled_core)
    (change 10 0 One ∷ change 20 1 One ∷ change 30 0 Zero ∷ change 40 1 Zero ∷ change 50 1 One ∷ [])
    ≡ shows drive.Unknown None ∷ shows drive.Unknown None ∷ shows drive.One (Some 11) ∷ shows drive.Zero (Some 7)
    ∷ shows drive.Floating (Some 11) ∷ shows drive.Zero (Some 13) ∷ []
unfolding core_line shows change enabled enabled_core
enabled_trace = refl

-- From x to z the greater of a path's delays counts, from z to x the lesser.
floats : lines_along (driven_line enabled enabled_core) (change 10 1 Zero ∷ change 20 1 Unknown ∷ [])
    ≡ shows drive.Unknown None ∷ shows drive.Floating (Some 13) ∷ shows drive.Unknown (Some 11) ∷ []
unfolding core_line shows change enabled enabled_core
floats = refl
