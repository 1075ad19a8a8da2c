use Rattle.std.proofs.Common.{◌≡◌, drop}
use Rattle.cell_machine.specs.Values.{written, picked}
use Rattle.cell_machine.proofs.fillings.copied.Given as goal

-- copying the rest gives what copying all gives
abbrev pub invariant-loop-name : goal.invariant-loop-name
invariant-loop-name l =
    written l.values (drop l.name-index l.names) (picked l.from (drop l.name-index l.names))
    ≡ written l.initial.values l.names (picked l.from l.names)
