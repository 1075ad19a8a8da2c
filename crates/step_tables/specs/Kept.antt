-- What is kept of the steps of a group.
use Rattle.std.specs.Prelude.{◌≡◌, ℕ, ◌+◌, ◌*◌, ◌/◌, ◌%◌, ◌<◌, ◌==◌, List, length, slice_get, Some, None}
use Rattle.trit_cubes.specs.Sets.{point_of}
use Rattle.statetables.specs.declared.lanes.StepWords.{StepWords}
use Rattle.statetables.specs.Lanes.{found_at}
use Rattle.cell_machine.specs.Step.{trit_or_unknown}
use Rattle.cell_machine.specs.CellData.{CellData}
use Rattle.cell_machine.specs.CellTrace.{step_at}
use Rattle.step_tables.specs.Turned.{turned}
use Rattle.step_tables.specs.NodeSteps.{blocks}
use Rattle.step_tables.specs.GroupPoints.{ArePoints}
use Rattle.step_tables.specs.declared.group_points.GroupPoint.{GroupPoint}
use Rattle.step_tables.specs.declared.step_table.Kept.{Kept}
use Rattle.step_tables.specs.declared.step_table.Kept.TheVariants.{Points, Words}

-- Word 18 * b + 2 * p + s tells the steps of group i from state s to the points from 64 * b on at a change of place p, or of none
-- where there is no such place. There are 18 of them for each 64 points.
pub record TellSteps (cell : CellData) (i places : ℕ) (words : List StepWords) : Type 0 where
  pub all : length words ≡ 18 * blocks places
  pub tell :
      (j : ℕ) (w : StepWords) → slice_get words j ≡ Some w → (k : ℕ) → k < 64
      → trit_or_unknown (found_at k w None)
      ≡ step_at cell i (turned (j % 18 / 2) (point_of places (64 * (j / 18) + k))) (point_of places (64 * (j / 18) + k))
      (j % 2 == 1)

-- what is kept of group i is true of it
pub record IsKept (cell : CellData) (i places : ℕ) (kept : Kept) : Type 0 where
  pub of_points : (points : List GroupPoint) → kept ≡ Points points → ArePoints cell i places points
  pub of_words : (words : List StepWords) → kept ≡ Words words → TellSteps cell i places words
