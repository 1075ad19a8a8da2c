-- The next states of a node of a state table at the points of its support, 64 at a time.
use Rattle.std.specs.Prelude.{◌≡◌, ℕ, ◌+◌, ◌*◌, ◌/◌, ◌%◌, ◌<◌, ◌^◌, ◌==◌, Bool, List, length, Option, None}
use Rattle.trit_cubes.specs.Sets.{point_of}
use Rattle.statetables.specs.declared.table.StateTable.{StateTable}
use Rattle.statetables.specs.declared.lanes.StepWords.{StepWords}
use Rattle.statetables.specs.Step.{table_step}
use Rattle.statetables.specs.Lanes.{found_at}
use Rattle.cell_machine.specs.Machine.{Step}
use Rattle.cell_machine.specs.Step.{trit_or_unknown}
use Rattle.cell_machine.specs.Values.{no_values, written, picked}
use Rattle.step_tables.specs.Turned.{turned}

-- the next state of a node with this support, whose table has these pins as inputs
abbrev pub node_next : StateTable → ℕ → List ℕ → List ℕ → List Bool → List Bool → Bool → Option Bool
node_next table node inputs support before after s =
    table_step table node (picked (written no_values support before) inputs) (picked (written no_values support after) inputs) s

-- the same as a step
abbrev pub node_step : StateTable → ℕ → List ℕ → List ℕ → Step
node_step table node inputs support before after s = trit_or_unknown (node_next table node inputs support before after s)

-- the next state at a change of this place to the point with this number
abbrev pub next_at : StateTable → ℕ → List ℕ → List ℕ → ℕ → Bool → ℕ → Option Bool
next_at table node inputs support p s k =
    node_next table node inputs support (turned p (point_of (length support) k)) (point_of (length support) k) s

-- words that tell what is found at 64 points from this number on
pub record TellFrom (next : ℕ → Option Bool) (start : ℕ) (words : StepWords) : Type 0 where
  pub found : (k : ℕ) → k < 64 → found_at k words None ≡ next (start + k)

-- how many words the points of n places take
abbrev pub blocks : ℕ → ℕ
blocks n = (2 ^ n + 63) / 64

-- Words that tell what is found at one of the 18 changes to a point, over 64 points: number 18 * b + 2 * p + s is of the change
-- of place p (of none, where there is no such place) from state s to the points from 64 * b on.
abbrev pub TellChange : StateTable → ℕ → List ℕ → List ℕ → ℕ → StepWords → Type 0
TellChange table node inputs support j words =
    TellFrom (next_at table node inputs support (j % 18 / 2) (j % 2 == 1)) (64 * (j / 18)) words
