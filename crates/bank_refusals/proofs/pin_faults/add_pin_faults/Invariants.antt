use Rattle.std.proofs.Common.{◌≡◌, drop, ◌++◌, map}
use Rattle.std.specs.Prelude.{flat_map}
use Rattle.bank_refusals.specs.Faults.{timing_faults_in, pin_faults}
use Rattle.bank_refusals.proofs.pin_faults.add_pin_faults.Given as goal

abbrev pub invariant-loop-item : goal.invariant-loop-item
invariant-loop-item l =
    l.found.items ++ flat_map (timing_faults_in l.place.vectors.now l.place.position) (map (λ item. item.now) (drop l.item-index l.items))
    ≡ l.fn.found.items ++ pin_faults l.place.vectors.now l.place.position (map (λ item. item.now) l.items)
