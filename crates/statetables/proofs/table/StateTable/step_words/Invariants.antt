use Rattle.std.proofs.Common.{◌≡◌, ℕ, ◌<◌, drop}
use Rattle.std.specs.Option.{option_and_then}
use Rattle.statetables.specs.Lanes.{lane, before_at, after_at, found_at}
use Rattle.statetables.specs.Step.{row_gives, row_of}
use Rattle.statetables.proofs.table.StateTable.step_words.Given as goal

-- what is found so far, with what the other rows give, is what all give
abbrev pub invariant-loop-row : goal.invariant-loop-row
invariant-loop-row l =
    (k : ℕ) → k < 64
    → found_at k l.words
    (option_and_then (row_gives l.node (lane k l.states)) (row_of (drop l.row-index l.row-items) l.node (before_at k l.inputs) (after_at k l.inputs) (lane k l.states)))
    ≡ option_and_then (row_gives l.node (lane k l.states)) (row_of l.self.rows l.node (before_at k l.inputs) (after_at k l.inputs) (lane k l.states))
