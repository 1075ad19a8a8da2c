use Rattle.std.proofs.Common.{◌≡◌, drop}
use Rattle.std.specs.List.{list_all}
use Rattle.bank_refusals.specs.Fixed.{is_fixed}
use Rattle.bank_refusals.proofs.fixed.are_fixed.Given as goal

abbrev pub invariant-loop-item : goal.invariant-loop-item
invariant-loop-item l = list_all (is_fixed l.vectors) (drop l.item-index l.items) ≡ list_all (is_fixed l.vectors) l.items
