use Rattle.std.proofs.Common.{◌≡◌, drop}
use Rattle.std.specs.List.{list_all}
use Rattle.bank_refusals.specs.Alike.{stays}
use Rattle.bank_refusals.proofs.alike.are_alike.Given as goal

abbrev pub invariant-loop-item : goal.invariant-loop-item
invariant-loop-item l = list_all (stays l.vectors) (drop l.item-index l.group.items) ≡ list_all (stays l.vectors) l.group.items
