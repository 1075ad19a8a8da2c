use Rattle.std.proofs.Common.{◌≡◌, drop, map}
use Rattle.std.specs.Prelude.{None}
use Rattle.std.specs.Option.{option_map}
use Rattle.liberty_groups.specs.Attributes.{attributes_named, last_or, shown}
use Rattle.bank_refusals.proofs.faults.last_named.Given as goal

abbrev pub invariant-loop-item : goal.invariant-loop-item
invariant-loop-item l =
    last_or (option_map shown l.found) (attributes_named l.name (map (λ item. item.now) (drop l.item-index l.items)))
    ≡ last_or None (attributes_named l.name (map (λ item. item.now) l.items))
