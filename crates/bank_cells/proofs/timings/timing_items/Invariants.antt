use Rattle.std.proofs.Common.{◌≡◌, drop, ◌++◌, map}
use Rattle.bank_cells.specs.Expanded.{timing_item}
use Rattle.bank_cells.proofs.timings.timing_items.Given as goal

abbrev pub invariant-loop-item : goal.invariant-loop-item
invariant-loop-item l =
    l.made ++ map (timing_item l.place.vectors.now l.place.position) (drop l.item-index l.items) ≡ map (timing_item l.place.vectors.now l.place.position) l.items
