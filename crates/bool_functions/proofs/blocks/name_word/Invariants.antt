use Rattle.std.proofs.Common.{◌≡◌, ◌+◌, ◌-◌}
use Rattle.std.specs.List.{range_with_len}
use Rattle.bool_functions.specs.Point.{entry_of}
use Rattle.bool_functions.specs.Block.{word_of}
use Rattle.bool_functions.proofs.blocks.name_word.Given as goal

-- the word so far is that of the last points
abbrev pub invariant-loop-step : goal.invariant-loop-step
invariant-loop-step l = l.word ≡ word_of (λ k. entry_of l.places k l.i) (range_with_len (l.start + (64 - l.step)) l.step)
