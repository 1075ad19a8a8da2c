use Rattle.std.proofs.Common.{◌≡◌, drop, ◌++◌}
use Rattle.std.specs.Prelude.{flat_map}
use Rattle.bank_refusals.specs.Refusals.{shape_faults_in, shape_faults}
use Rattle.bank_refusals.proofs.refusals.shape_faults.Given as goal

abbrev pub invariant-loop-item : goal.invariant-loop-item
invariant-loop-item l =
    l.found.items ++ flat_map (shape_faults_in l.types) (drop l.item-index l.cell.items) ≡ shape_faults l.types l.cell
