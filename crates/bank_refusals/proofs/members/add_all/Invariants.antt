use Rattle.std.proofs.Common.{◌≡◌, drop, ◌++◌, map}
use Rattle.bank_refusals.proofs.members.add_all.Given as goal

abbrev pub invariant-loop-item : goal.invariant-loop-item
invariant-loop-item l =
    map (λ item. item.now) l.found.items ++ drop l.item-index l.items ≡ map (λ item. item.now) l.initial.found.items ++ l.items
