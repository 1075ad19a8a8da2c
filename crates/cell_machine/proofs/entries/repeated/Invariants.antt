use Rattle.std.proofs.Common.{◌≡◌, replicate}
use Rattle.cell_machine.proofs.entries.repeated.Given as goal

-- so many so far
abbrev pub invariant-loop : goal.invariant-loop
invariant-loop g l = l.entries ≡ replicate l.counter l.value
