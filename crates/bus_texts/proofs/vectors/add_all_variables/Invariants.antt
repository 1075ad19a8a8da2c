use Rattle.std.proofs.Common.{◌≡◌, drop, ◌++◌}
use Rattle.std.specs.Prelude.{flat_map}
use Rattle.bus_texts.specs.Vectors.{variables_at}
use Rattle.bus_texts.proofs.vectors.add_all_variables.Given as goal

abbrev pub invariant-loop-item : goal.invariant-loop-item
invariant-loop-item l =
    l.found ++ flat_map variables_at (drop l.item-index l.cell.items) ≡ l.initial.found ++ flat_map variables_at l.cell.items
