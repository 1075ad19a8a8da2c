use Rattle.std.proofs.Common.{◌≡◌, drop, ◌++◌, map}
use Rattle.bank_cells.specs.Expanded.{text_at}
use Rattle.bank_cells.proofs.rewritten.texts_at.Given as goal

abbrev pub invariant-loop-item : goal.invariant-loop-item
invariant-loop-item l =
    l.made ++ map (text_at l.place.vectors.now l.place.position (map (λ name. name.now) l.names)) (drop l.item-index l.items)
    ≡ map (text_at l.place.vectors.now l.place.position (map (λ name. name.now) l.names)) l.items
