use Rattle.std.proofs.Common.{◌≡◌, ◌++◌, drop}
use Rattle.liberty_groups.specs.Writing.{items_text}
use Rattle.group_writer.proofs.writer.+writing.Given as goal

abbrev pub invariant-push_items-loop-item : goal.invariant-push_items-loop-item
invariant-push_items-loop-item l =
    l.out.items ++ items_text (drop l.item-index l.items) ≡ l.fn.out.items ++ items_text l.items
