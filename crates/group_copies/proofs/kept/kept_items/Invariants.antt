use Rattle.std.proofs.Common.{◌≡◌, ◌++◌, drop, filter}
use Rattle.liberty_groups.specs.declared.tree.Item.{out-Item}
use Rattle.group_copies.proofs.kept.kept_items.Given as goal

abbrev pub invariant-loop-item : goal.invariant-loop-item
invariant-loop-item g l =
    l.copies ++ filter (λ item. g.K.Keeps.keeps l.kept (out-Item item)) (drop l.item-index l.items)
    ≡ filter (λ item. g.K.Keeps.keeps l.kept (out-Item item)) l.items
