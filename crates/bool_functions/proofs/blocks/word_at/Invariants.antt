use Rattle.std.proofs.Common.{◌≡◌, drop}
use Rattle.bool_functions.specs.Block.{word_at}
use Rattle.bool_functions.proofs.blocks.word_at.Given as goal

-- no name so far is this one
abbrev pub invariant-loop-named : goal.invariant-loop-named
invariant-loop-named l = word_at (drop l.named-index l.words) l.i ≡ word_at l.words l.i
