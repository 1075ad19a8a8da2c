use Rattle.std.proofs.Common.{◌≡◌, length}
use Rattle.timing_arcs.specs.Sums.{with_text}
use Rattle.timing_arcs.proofs.tables.Sum.add_text.Given as goal

-- the sum so far, with the entries that are left, is that with all
abbrev pub invariant-loop-left : goal.invariant-loop-left
invariant-loop-left l = with_text l.unit l.at l.self l.left ≡ with_text l.unit l.at l.initial.self l.text

abbrev pub decreases-loop-left : goal.decreases-loop-left
decreases-loop-left l = length l.left
