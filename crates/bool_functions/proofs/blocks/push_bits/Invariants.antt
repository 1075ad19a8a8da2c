use Rattle.std.proofs.Common.{◌≡◌, ◌++◌, ◌-◌}
use Rattle.bool_functions.specs.Block.{bits_of}
use Rattle.bool_functions.proofs.blocks.push_bits.Given as goal

-- the bits so far, with the others, are all
abbrev pub invariant-loop-at : goal.invariant-loop-at
invariant-loop-at l = l.values.items ++ bits_of (l.count - l.at) l.rest ≡ l.initial.values.items ++ bits_of l.count l.word
