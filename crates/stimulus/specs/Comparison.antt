-- A section of three simulators, as the report shows it: of a cell, of its Verilog module and of its VITAL entity (this project's
-- format).
use Rattle.std.specs.Prelude.{◌≡◌, ◌↔◌, ℕ, ◌+◌, Bool, true, false, ◌&&◌, List, [], ◌∷◌, ◌++◌, length, codes, decimal, Option}
use Rattle.std.specs.Prelude.{Some, None, if◌then◌else◌}
use Rattle.cell_machine.specs.declared.changes.Change.{Change}
use Rattle.stimulus.specs.declared.ports.Ports.{Ports}
use Rattle.stimulus.specs.DriveLines.{DriveLine, lines_after, lines_along, DriveMachine, IsSized}
use Rattle.stimulus.specs.TraceLine.{drive_line_text}
use Rattle.stimulus.specs.Differences.{same_line}

-- what the three show at one place
pub record Lines : Type 0 where
  pub liberty : DriveLine
  pub verilog : DriveLine
  pub vital : DriveLine

-- what three machines show after a history
abbrev pub three_lines : DriveMachine → DriveMachine → DriveMachine → List Change → Lines
three_lines liberty verilog vital h = record { liberty = liberty.line h; verilog = verilog.line h; vital = vital.line h }

-- three that show one line
abbrev pub all_show : DriveLine → Lines
all_show line = record { liberty = line; verilog = line; vital = line }

-- each of three machines has as many inputs and outputs as there are names
pub record HavePorts (ports : Ports) (liberty verilog vital : DriveMachine) : Type 0 where
  pub liberty_inputs : length ports.inputs ≡ liberty.inputs
  pub liberty_outputs : length ports.outputs ≡ liberty.outputs
  pub verilog_inputs : length ports.inputs ≡ verilog.inputs
  pub verilog_outputs : length ports.outputs ≡ verilog.outputs
  pub vital_inputs : length ports.inputs ≡ vital.inputs
  pub vital_outputs : length ports.outputs ≡ vital.outputs

-- the line of each, in this order
unfoldable pub lines_text : Option Change → Ports → Lines → List ℕ
lines_text change ports lines =
    drive_line_text 76 change ports.inputs ports.outputs lines.liberty
    ++ (drive_line_text 86 change ports.inputs ports.outputs lines.verilog
    ++ drive_line_text 72 change ports.inputs ports.outputs lines.vital)

-- a line with each tag, of which this is the rest
abbrev pub tagged_thrice : List ℕ → List ℕ
tagged_thrice shown = 76 ∷ shown ++ (86 ∷ shown ++ 72 ∷ shown)

-- no two of the three lines differ: the first one is that of each other
abbrev pub are_alike : Lines → Bool
are_alike lines = same_line lines.liberty lines.verilog && same_line lines.liberty lines.vital

-- the lines on these changes
abbrev pub compared_texts : Ports → List Change → List Lines → List ℕ
compared_texts ports (change ∷ changes) (lines ∷ more) = lines_text (Some change) ports lines ++ compared_texts ports changes more
compared_texts ports _ _ = []

-- the lines of the start and on each change
abbrev pub compared_text : Ports → List Change → (List Change → Lines) → List ℕ
compared_text ports changes lines = lines_text None ports (lines [])
    ++ compared_texts ports changes (lines_after lines [] changes)

-- the first number so far, and else this one where the three are not alike
abbrev pub first_of : Bool → Option ℕ → ℕ → Option ℕ
first_of alike (Some first) number = Some first
first_of true None number = None
first_of false None number = Some number

-- the number of the first place at which two of the three differ, where the first place has this number
abbrev pub unlike_from : ℕ → List Lines → Option ℕ
unlike_from n [] = None
unlike_from n (lines ∷ more) = if are_alike lines then unlike_from (n + 1) more else Some n

-- the number of the first change at which two of the three traces differ, from 1, and 0 for the start
abbrev pub first_unlike : List Change → (List Change → Lines) → Option ℕ
first_unlike changes lines = unlike_from 0 (lines_along lines changes)

-- Where three machines run as many checks, no two of them differ exactly where their traces are equal.
abbrev pub NoneUnlikeIsEqual : Type 0
NoneUnlikeIsEqual =
    (liberty verilog vital : DriveMachine) (cs : List Change) → IsSized liberty → IsSized verilog → IsSized vital
    → liberty.checks ≡ verilog.checks → liberty.checks ≡ vital.checks
    → (first_unlike cs (three_lines liberty verilog vital) ≡ None)
    ↔ ((lines_along liberty.line cs ≡ lines_along verilog.line cs) × (lines_along liberty.line cs ≡ lines_along vital.line cs))

-- the line with which such a section ends
unfoldable pub verdict_text : Option ℕ → List ℕ
verdict_text None = codes "equal\n"
verdict_text (Some n) = codes "differs at change " ++ (decimal n ++ codes "\n")
