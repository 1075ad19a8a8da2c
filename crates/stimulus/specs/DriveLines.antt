-- Lines of a trace as they are printed. An output shows 0, 1, x or z (IEEE 1364-2005, clause 4.1: the value set). What has no
-- three-state output shows the same drives as it has values.
use Rattle.std.specs.Prelude.{◌≡◌, ℕ, Bool, true, false, List, [], ◌∷◌, length, map, Option}
use Rattle.trit_cubes.specs.declared.trits.Trit.{Trit}
use Rattle.trit_cubes.specs.declared.trits.Trit.TheVariants.{Zero, One, Unknown}
use Rattle.cell_machine.specs.declared.changes.Change.{Change}
use Rattle.cell_machine.specs.Lines.{Line, Machine}
use Rattle.stimulus.specs.declared.drives.Drive.{Drive}
use Rattle.stimulus.specs.declared.drives.Drive.TheVariants as drive

-- the drive that shows a value
abbrev pub drive_of : Trit → Drive
drive_of Zero = drive.Zero
drive_of One = drive.One
drive_of Unknown = drive.Unknown

abbrev pub same_drive : Drive → Drive → Bool
same_drive drive.Zero drive.Zero = true
same_drive drive.One drive.One = true
same_drive drive.Unknown drive.Unknown = true
same_drive drive.Floating drive.Floating = true
same_drive _ _ = false

-- What is printed after a change, and at the start: what each output shows, its delay where it changed at this change, and
-- whether each check reports.
pub record DriveLine : Type 0 where
  pub values : List Drive
  pub delays : List (Option ℕ)
  pub reports : List Bool

-- the line that shows these values
abbrev pub drive_line : Line → DriveLine
drive_line line = record { values = map drive_of line.values; delays = line.delays; reports = line.reports }

-- What a simulator runs: how many inputs, outputs and checks it has, and what its line is after each history.
pub record DriveMachine : Type 0 where
  pub inputs : ℕ
  pub outputs : ℕ
  pub checks : ℕ
  pub line : List Change → DriveLine

-- each line has an entry for each output and each check
pub record IsSized (m : DriveMachine) : Type 0 where
  pub values : (h : List Change) → length (m.line h).values ≡ m.outputs
  pub delays : (h : List Change) → length (m.line h).delays ≡ m.outputs
  pub reports : (h : List Change) → length (m.line h).reports ≡ m.checks

-- a machine whose outputs are never z
abbrev pub drive_machine : Machine → DriveMachine
drive_machine m = record { inputs = m.inputs; outputs = m.outputs; checks = m.checks; line = λ h. drive_line (m.line h) }

-- what is shown along changes, the oldest first, that go on from a history
abbrev pub lines_after : {L : Type 0} → (List Change → L) → List Change → List Change → List L
lines_after line h [] = []
lines_after line h (c ∷ cs) = line (c ∷ h) ∷ lines_after line (c ∷ h) cs

-- what is shown along changes, the oldest first: at the start, and after each change
abbrev pub lines_along : {L : Type 0} → (List Change → L) → List Change → List L
lines_along line cs = line [] ∷ lines_after line [] cs
