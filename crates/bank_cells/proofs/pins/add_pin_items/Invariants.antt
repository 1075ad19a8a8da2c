use Rattle.std.proofs.Common.{◌≡◌, drop, ◌++◌, map}
use Rattle.bank_cells.specs.Expanded.{pin_item}
use Rattle.bank_cells.proofs.pins.add_pin_items.Given as goal

abbrev pub invariant-loop-item : goal.invariant-loop-item
invariant-loop-item l =
    l.found ++ map (pin_item l.place.vectors.now l.place.position) (map (λ item. item.now) (drop l.item-index l.items))
    ≡ l.initial.found ++ map (pin_item l.place.vectors.now l.place.position) (map (λ item. item.now) l.items)
