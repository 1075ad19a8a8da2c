use Rattle.std.proofs.Common.{◌≡◌, drop, ◌++◌}
use Rattle.std.specs.Prelude.{flat_map}
use Rattle.bus_texts.specs.Vectors.{pin_vectors_in}
use Rattle.bus_texts.proofs.vectors.add_all_pin_vectors.Given as goal

abbrev pub invariant-loop-item : goal.invariant-loop-item
invariant-loop-item l =
    l.found ++ flat_map (pin_vectors_in l.types) (drop l.item-index l.cell.items) ≡ l.initial.found ++ flat_map (pin_vectors_in l.types) l.cell.items
