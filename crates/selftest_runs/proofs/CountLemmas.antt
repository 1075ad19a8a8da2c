-- Known output values counted one after another.
use Rattle.std.proofs.Common.{◌≡◌, ℕ, ◌+◌, not, List, count_by, sum_by}
use Rattle.trit_cubes.specs.declared.trits.Trit.{Trit}
use Rattle.trit_cubes.specs.Filling.{is_unknown}
use Rattle.cell_machine.specs.declared.changes.Change.{Change}
use Rattle.cell_machine.specs.History.{IsProperFrom}
use Rattle.cell_machine.specs.Lines.{Line, lines_from}
use Rattle.selftest_runs.specs.Counts.{known_values}

-- how many of these values are 0 or 1
abbrev pub known_among : List Trit → ℕ
known_among values = count_by (λ v. not (is_unknown v)) values

-- How far a simulator is run. It stands after a history, the rest of the changes goes on from there, and the known values so far
-- make with those of the rest all of them.
pub record Counting (stands : List Change → Type 0) (line : List Change → Line) (inputs so_far : ℕ) (rest : List Change)
    (whole : ℕ) : Type 0 where
  pub history : List Change
  pub standing : stands history
  pub proper : IsProperFrom inputs history rest
  pub later : so_far + sum_by known_values (lines_from line history rest) ≡ whole
