use Rattle.std.proofs.Common.{◌≡◌, drop}
use Rattle.timing_arcs.specs.Sums.{with_arguments}
use Rattle.timing_arcs.proofs.tables.Sum.add_arguments.Given as goal

-- the sum so far, with the other arguments, is that with all
abbrev pub invariant-loop-value : goal.invariant-loop-value
invariant-loop-value l = with_arguments l.unit l.at l.self (drop l.value-index l.arguments) ≡ with_arguments l.unit l.at l.initial.self l.arguments
