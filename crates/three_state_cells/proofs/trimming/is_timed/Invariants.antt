use Rattle.std.proofs.Common.{◌≡◌, drop}
use Rattle.std.specs.List.{list_any}
use Rattle.liberty_groups.specs.declared.tree.Item.{out-Item}
use Rattle.three_state_cells.specs.Trimmed.{is_timing, is_timed}
use Rattle.three_state_cells.proofs.trimming.is_timed.Given as goal

abbrev pub invariant-loop-item : goal.invariant-loop-item
invariant-loop-item l =
    list_any (λ item. is_timing (out-Item item)) (drop l.item-index l.group.items) ≡ is_timed l.group
