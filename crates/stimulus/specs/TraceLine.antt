-- A line of a trace as it is printed (this project's format).
use Rattle.std.specs.Prelude.{ℕ, ◌+◌, Bool, true, false, List, [], ◌∷◌, ◌++◌, codes, decimal, slice_get, Option, Some, None}
use Rattle.std.specs.Option.{option_map_or}
use Rattle.cell_machine.specs.declared.changes.Change.{Change}
use Rattle.cell_machine.specs.Lines.{Line}
use Rattle.stimulus.specs.declared.drives.Drive.{Drive}
use Rattle.stimulus.specs.declared.drives.Drive.TheVariants.{Zero, One, Unknown, Floating}
use Rattle.stimulus.specs.DriveLines.{drive_of, DriveLine, drive_line}

-- how a drive is printed
abbrev pub value_text : Drive → List ℕ
value_text Zero = codes "0"
value_text One = codes "1"
value_text Unknown = codes "x"
value_text Floating = codes "z"

-- the name with this number, empty where there is none
abbrev pub name_at : List (List ℕ) → ℕ → List ℕ
name_at names number = option_map_or (λ (name : List ℕ). name) (slice_get names number) []

-- a change: its time in picoseconds, its input and its value
unfoldable pub change_text : List (List ℕ) → Change → List ℕ
change_text inputs change =
    codes " " ++ (decimal change.at ++ (codes " "
    ++ (name_at inputs change.pin ++ (codes " " ++ (value_text (drive_of change.to) ++ codes " :")))))

-- what the line is on: the start or a change
abbrev pub head_text : List (List ℕ) → Option Change → List ℕ
head_text inputs None = codes " start :"
head_text inputs (Some change) = change_text inputs change

-- the delay of an output, where it changed at this line
abbrev pub delay_text : Option ℕ → List ℕ
delay_text None = []
delay_text (Some delay) = codes "@" ++ decimal delay

-- an output: its name, what it shows, and its delay
unfoldable pub output_text : List ℕ → Drive → Option ℕ → List ℕ
output_text name value delay = codes " " ++ (name ++ (codes "=" ++ (value_text value ++ delay_text delay)))

-- the outputs, in order
abbrev pub outputs_text : List (List ℕ) → List Drive → List (Option ℕ) → List ℕ
outputs_text (name ∷ names) (value ∷ values) (delay ∷ delays) = output_text name value delay ++ outputs_text names values delays
outputs_text _ _ _ = []

-- a check that reported, by its number from 1
unfoldable pub report_text : ℕ → Bool → List ℕ
report_text number true = codes " !" ++ decimal number
report_text number false = []

-- the checks that reported, of which the first has this number
abbrev pub reports_text : ℕ → List Bool → List ℕ
reports_text number [] = []
reports_text number (reported ∷ more) = report_text number reported ++ reports_text (number + 1) more

-- what stands behind a line's tag: what the line is on, the outputs and the reports, and a line feed
abbrev pub shown_text : Option Change → List (List ℕ) → List (List ℕ) → DriveLine → List ℕ
shown_text change inputs outputs line =
    head_text inputs change ++ (outputs_text outputs line.values line.delays ++ (reports_text 1 line.reports ++ codes "\n"))

-- The line: the tag, and what stands behind it.
unfoldable pub drive_line_text : ℕ → Option Change → List (List ℕ) → List (List ℕ) → DriveLine → List ℕ
drive_line_text tag change inputs outputs line = (tag ∷ []) ++ shown_text change inputs outputs line

-- the same of a line of values
abbrev pub line_text : ℕ → Option Change → List (List ℕ) → List (List ℕ) → Line → List ℕ
line_text tag change inputs outputs line = drive_line_text tag change inputs outputs (drive_line line)
