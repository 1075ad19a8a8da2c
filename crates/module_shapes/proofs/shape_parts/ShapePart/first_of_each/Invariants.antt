use Rattle.std.proofs.Common.{◌≡◌, ◌-◌, map}
use Rattle.std.specs.List.{range_with_len}
use Rattle.cell_machine.specs.CellData.{data_of}
use Rattle.module_shapes.specs.Shape.{asked_of, asked, first_amiss}
use Rattle.module_shapes.proofs.shape_parts.ShapePart.first_of_each.Given as goal

-- the first one is among the rest
abbrev pub invariant-loop-k : goal.invariant-loop-k
invariant-loop-k l =
    first_amiss (map (asked_of (data_of l.cell) l.model l.self) (range_with_len l.k (l.count - l.k)))
    ≡ first_amiss (asked (data_of l.cell) l.model l.self)
