use Rattle.std.proofs.Common.{◌≡◌, drop, ◌++◌, map}
use Rattle.std.specs.Prelude.{filter}
use Rattle.bank_refusals.specs.Fixed.{varies}
use Rattle.bank_refusals.proofs.shared.varying_items.Given as goal

abbrev pub invariant-loop-item : goal.invariant-loop-item
invariant-loop-item l = map (λ item. item.now) l.found.items ++ filter (varies l.vectors) (drop l.item-index l.items) ≡ filter (varies l.vectors) l.items
