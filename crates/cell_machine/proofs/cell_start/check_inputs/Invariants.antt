use Rattle.std.proofs.Common.{◌≡◌, take, map}
use Rattle.cell_machine.specs.declared.checks.Check.{Check}
use Rattle.cell_machine.specs.Inputs.{input_number}
use Rattle.cell_machine.proofs.cell_start.check_inputs.Given as goal

-- the numbers for the checks so far
abbrev pub invariant-loop-i : goal.invariant-loop-i
invariant-loop-i l = l.inputs ≡ map (λ (k : Check). input_number l.cell.pins k.second.pin) (take l.i l.cell.checks)
