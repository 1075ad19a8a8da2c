use Rattle.std.proofs.Common.{◌≡◌, drop, ◌++◌}
use Rattle.std.specs.Prelude.{flat_map}
use Rattle.bank_refusals.specs.Refusals.{vector_faults}
use Rattle.bank_refusals.proofs.pin_faults.PinStatements.add_all.Given as goal

abbrev pub invariant-loop-vector : goal.invariant-loop-vector
invariant-loop-vector l =
    l.found.items ++ flat_map (vector_faults l.self.vectors.now l.self.group.now) (drop l.vector-index l.made)
    ≡ l.initial.found.items ++ flat_map (vector_faults l.self.vectors.now l.self.group.now) l.made
