use Rattle.std.proofs.Common.{◌≡◌, drop}
use Rattle.statetables.specs.Step.{inputs_match}
use Rattle.cell_machine.specs.Values.{picked}
use Rattle.cell_machine.proofs.steps.columns_match.Given as goal

-- the rest matches exactly where all does
abbrev pub invariant-loop-i : goal.invariant-loop-i
invariant-loop-i l =
    inputs_match (drop l.i l.symbols) (picked l.before (drop l.i l.inputs)) (picked l.after (drop l.i l.inputs))
    ≡ inputs_match l.symbols (picked l.before l.inputs) (picked l.after l.inputs)
