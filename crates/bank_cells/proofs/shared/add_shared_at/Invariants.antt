use Rattle.std.proofs.Common.{◌≡◌, drop, ◌++◌, map, Some}
use Rattle.bank_cells.specs.Expanded.{pin_item}
use Rattle.bank_cells.specs.Fixed.{items_of}
use Rattle.bank_cells.proofs.shared.add_shared_at.Given as goal

abbrev pub invariant-loop-one : goal.invariant-loop-one
invariant-loop-one l =
    l.found ++ map (pin_item l.vectors (Some l.at)) (items_of (drop l.one-index l.shared))
    ≡ l.initial.found ++ map (pin_item l.vectors (Some l.at)) (items_of l.shared)
