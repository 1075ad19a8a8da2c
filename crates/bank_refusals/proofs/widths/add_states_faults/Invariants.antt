use Rattle.std.proofs.Common.{◌≡◌, drop, ◌++◌}
use Rattle.std.specs.Prelude.{flat_map}
use Rattle.bank_refusals.specs.Refusals.{state_faults}
use Rattle.bank_refusals.proofs.widths.add_states_faults.Given as goal

abbrev pub invariant-loop-bit : goal.invariant-loop-bit
invariant-loop-bit l =
    l.found.items ++ flat_map (state_faults l.vectors l.group) (drop l.bit-index l.bits) ≡ l.initial.found.items ++ flat_map (state_faults l.vectors l.group) l.bits
