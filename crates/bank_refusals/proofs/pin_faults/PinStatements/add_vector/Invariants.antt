use Rattle.std.proofs.Common.{◌≡◌, drop, ◌++◌}
use Rattle.bank_refusals.specs.Refusals.{along, member_faults, vector_faults}
use Rattle.bank_refusals.proofs.pin_faults.PinStatements.add_vector.Given as goal

abbrev pub invariant-loop-at : goal.invariant-loop-at
invariant-loop-at l =
    l.found.items ++ along (member_faults l.self.vectors.now l.self.group.now l.vector) l.at (drop l.at l.vector.members)
    ≡ l.initial.found.items ++ vector_faults l.self.vectors.now l.self.group.now l.vector
