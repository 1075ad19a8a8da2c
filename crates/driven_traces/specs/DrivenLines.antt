-- The driven trace: what is shown of a core's trace behind the drivers of its outputs. A driven output shows what its driver
-- drives of the core's value under its enable, and its delay and change are judged on that. All else is the core's trace.
use Rattle.std.specs.Prelude.{ℕ, ◌+◌, List, [], ◌∷◌, map, Option, Some, None, slice_index_or, if◌then◌else◌}
use Rattle.std.specs.List.{range_with_len}
use Rattle.trit_cubes.specs.declared.trits.Trit.{Trit}
use Rattle.cell_machine.specs.declared.changes.Change.{Change}
use Rattle.cell_machine.specs.Inputs.{numbered_value}
use Rattle.cell_machine.specs.Lines.{Line, Machine}
use Rattle.stimulus.specs.declared.drives.Drive.{Drive}
use Rattle.stimulus.specs.DriveLines.{drive_of, same_drive, DriveLine, DriveMachine}
use Rattle.driven_traces.specs.declared.drivers.Driver.{Driver}
use Rattle.driven_traces.specs.Drives.{drive}
use Rattle.driven_traces.specs.DriveDelays.{least_delay}
use Rattle.driven_traces.specs.Drivers.{number_of, place_of}

-- what the driven output with this number shows of the core's values: its value under its enable
abbrev pub driven_value : Driver → List Trit → ℕ → Drive
driven_value driver values number =
    drive (numbered_value values (place_of driver number)) (numbered_value values (driver.outputs + number))

-- the delay of the driven output with this number at a change of an input, where what it shows does change
abbrev pub driven_delay : Driver → ℕ → ℕ → Drive → Drive → Option ℕ
driven_delay driver input number a b =
    (if same_drive a b then None else Some
    (least_delay (record { input = input; number = number; from = a; to = b }) driver.paths))

-- what an output shows, which may be driven
abbrev pub value_by : Driver → List Trit → ℕ → Option ℕ → Drive
value_by driver values place None = drive_of (numbered_value values place)
value_by driver values place (Some number) = driven_value driver values number

-- the delay of an output, which may be driven, where the driven ones have these
abbrev pub delay_by : List (Option ℕ) → (ℕ → Option ℕ) → ℕ → Option ℕ → Option ℕ
delay_by delays driven place None = slice_index_or delays place None
delay_by delays driven place (Some number) = driven number

-- the outputs
abbrev pub places : Driver → List ℕ
places driver = range_with_len 0 driver.outputs

-- a core's line behind the drivers, where the driven outputs have these delays
abbrev pub line_with : Driver → Line → (ℕ → Option ℕ) → DriveLine
line_with driver line driven =
    record {
      values = map (λ place. value_by driver line.values place (number_of driver place)) (places driver);
      delays = map (λ place. delay_by line.delays driven place (number_of driver place)) (places driver);
      reports = line.reports;
    }

-- the line at the start: no driven output has a delay
abbrev pub first_line : Driver → Line → DriveLine
first_line driver line = line_with driver line (λ _. None)

-- the line after a change, of the core's line before it and after it
abbrev pub next_line : Driver → Change → Line → Line → DriveLine
next_line driver c before line =
    line_with driver line (λ number. driven_delay driver c.pin number (driven_value driver before.values number)
    (driven_value driver line.values number))

-- what is shown after a history
abbrev pub driven_line : Driver → (List Change → Line) → List Change → DriveLine
driven_line driver line [] = first_line driver (line [])
driven_line driver line (c ∷ h) = next_line driver c (line h) (line (c ∷ h))

-- a core behind its drivers, as what a simulator runs
abbrev pub driven_machine : Driver → Machine → DriveMachine
driven_machine driver core =
    record { inputs = driver.inputs; outputs = driver.outputs; checks = core.checks; line = driven_line driver core.line }
