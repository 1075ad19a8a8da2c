use Rattle.std.proofs.Common.{◌≡◌, drop}
use Rattle.cell_machine.specs.Values.{written}
use Rattle.cell_machine.proofs.values.Values.written.Given as goal

-- writing the rest gives what writing all gives
abbrev pub invariant-loop-i : goal.invariant-loop-i
invariant-loop-i l = written l.values (drop l.i l.names) (drop l.i l.point) ≡ written l.fn.self l.names l.point
