use Rattle.std.proofs.Common.{◌≡◌, drop, ◌++◌, map}
use Rattle.bank_cells.specs.Fixed.{shown_shared, shared_items}
use Rattle.bank_cells.proofs.shared.shared_items.Given as goal

abbrev pub invariant-loop-item : goal.invariant-loop-item
invariant-loop-item l =
    map shown_shared l.found.items ++ shared_items l.vectors (drop l.item-index l.items) ≡ shared_items l.vectors l.items
