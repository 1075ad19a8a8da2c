use Rattle.std.proofs.Common.{◌≡◌, drop}
use Rattle.std.specs.List.{list_any}
use Rattle.liberty_groups.specs.declared.tree.Item.{out-Item}
use Rattle.three_state_cells.specs.Trimmed.{is_group, has_groups}
use Rattle.three_state_cells.proofs.trimming.has_groups.Given as goal

abbrev pub invariant-loop-item : goal.invariant-loop-item
invariant-loop-item l =
    list_any (λ item. is_group (out-Item item)) (drop l.item-index l.group.items) ≡ has_groups l.group
