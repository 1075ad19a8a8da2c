use Rattle.std.proofs.Common.{◌≡◌, drop, map}
use Rattle.std.specs.List.{filter_map}
use Rattle.std.specs.Option.{option_map}
use Rattle.liberty_groups.specs.declared.tree.Item.{out-Item}
use Rattle.liberty_groups.specs.Attributes.{last_or, shown}
use Rattle.bank_refusals.specs.Faults.{related_as, related_text}
use Rattle.bank_refusals.proofs.related.related_text.Given as goal

abbrev pub invariant-loop-item : goal.invariant-loop-item
invariant-loop-item l =
    last_or (option_map shown l.found) (filter_map (λ item. related_as (out-Item item)) (map (λ item. item.now) (drop l.item-index l.items)))
    ≡ related_text (map (λ item. item.now) l.items)
