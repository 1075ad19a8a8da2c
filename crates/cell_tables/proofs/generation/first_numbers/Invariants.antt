use Rattle.std.proofs.Common.{◌≡◌}
use Rattle.udp_tables.specs.Generated.{numbers_below}
use Rattle.cell_tables.proofs.generation.first_numbers.Given as goal

abbrev pub invariant-loop-number : goal.invariant-loop-number
invariant-loop-number l = l.numbers.items ≡ numbers_below l.number
