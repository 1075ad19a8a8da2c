-- Lines of a trace. The traces of a cell, of a module and of a process are all made so.
use Rattle.std.specs.Prelude.{◌≡◌, ℕ, Bool, List, [], ◌∷◌, length, map, Option}
use Rattle.trit_cubes.specs.declared.trits.Trit.{Trit}
use Rattle.cell_machine.specs.declared.changes.Change.{Change}

-- What is shown after a change, and at the start: the value of each output, its delay where it changed at this change,
-- and whether each check reports.
pub record Line : Type 0 where
  pub values : List Trit
  pub delays : List (Option ℕ)
  pub reports : List Bool

-- the line of these outputs and checks, by what they show after each history
abbrev pub shown_line : {O : Type 0} → List O → (List Change → O → Trit) → (List Change → O → Option ℕ)
    → (List Change → List Bool) → List Change → Line
shown_line outputs value delay reports h =
    record { values = map (value h) outputs; delays = map (delay h) outputs; reports = reports h }

-- the lines of changes, the oldest first, that go on from a history
abbrev pub lines_from : (List Change → Line) → List Change → List Change → List Line
lines_from line h [] = []
lines_from line h (c ∷ cs) = line (c ∷ h) ∷ lines_from line (c ∷ h) cs

-- The trace of a list of changes, the oldest first: a line for the start and one for each change.
abbrev pub trace : (List Change → Line) → List Change → List Line
trace line cs = line [] ∷ lines_from line [] cs

-- What a simulator runs: how many inputs, outputs and checks it has, and what its line is after each history.
pub record Machine : Type 0 where
  pub inputs : ℕ
  pub outputs : ℕ
  pub checks : ℕ
  pub line : List Change → Line

-- what has so many inputs and checks, these outputs and this line
abbrev pub machine_by : {O : Type 0} → ℕ → ℕ → List O → (List Change → Line) → Machine
machine_by inputs checks outputs line = record { inputs = inputs; outputs = length outputs; checks = checks; line = line }

-- each line has an entry for each output and each check
pub record IsSized (m : Machine) : Type 0 where
  pub values : (h : List Change) → length (m.line h).values ≡ m.outputs
  pub delays : (h : List Change) → length (m.line h).delays ≡ m.outputs
  pub reports : (h : List Change) → length (m.line h).reports ≡ m.checks
