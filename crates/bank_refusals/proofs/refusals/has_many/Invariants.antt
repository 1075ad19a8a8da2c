use Rattle.std.proofs.Common.{◌≡◌, drop}
use Rattle.std.specs.List.{list_any}
use Rattle.bank_refusals.specs.Refusals.{is_many_item}
use Rattle.bank_refusals.proofs.refusals.has_many.Given as goal

abbrev pub invariant-loop-item : goal.invariant-loop-item
invariant-loop-item l =
    list_any is_many_item (drop l.item-index l.cell.items) ≡ list_any is_many_item l.cell.items
