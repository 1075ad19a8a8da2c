use Rattle.std.proofs.Common.{◌≡◌, ◌++◌, length, reverse}
use Rattle.vhdl_reader.specs.Joined.{joined}
use Rattle.vhdl_reader.proofs.wholes.joined.Given as goal

abbrev pub invariant-loop-first : goal.invariant-loop-first
invariant-loop-first g l =
    l.wholes ++ joined g.W.Whole.join (reverse l.firsts_left) (reverse l.seconds_left)
    ≡ joined g.W.Whole.join (reverse l.initial.firsts_left) (reverse l.initial.seconds_left)

abbrev pub decreases-loop-first : goal.decreases-loop-first
decreases-loop-first g l = length l.firsts_left
