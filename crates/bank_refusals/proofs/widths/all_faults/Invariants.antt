use Rattle.std.proofs.Common.{◌≡◌, drop, ◌++◌}
use Rattle.std.specs.Prelude.{flat_map}
use Rattle.bank_refusals.specs.Refusals.{width_faults_in}
use Rattle.bank_refusals.proofs.widths.all_faults.Given as goal

abbrev pub invariant-loop-item : goal.invariant-loop-item
invariant-loop-item l =
    l.found.items ++ flat_map (width_faults_in l.types l.vectors) (drop l.item-index l.items) ≡ flat_map (width_faults_in l.types l.vectors) l.items
