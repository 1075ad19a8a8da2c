use Rattle.std.proofs.Common.{◌≡◌, drop}
use Rattle.library_simulation.specs.SamePorts.{same_ports}
use Rattle.library_simulation.proofs.same_ports.Spelling.same_ports.Given as goal

-- the rest decides
abbrev pub invariant-loop-i : goal.invariant-loop-i
invariant-loop-i l = record { rest : same_ports l.self (drop l.i l.ports) (drop l.i l.others) ≡ same_ports l.self l.ports l.others }
