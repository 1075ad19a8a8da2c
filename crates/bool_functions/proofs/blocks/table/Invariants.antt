use Rattle.std.proofs.Common.{◌≡◌, ◌*◌, map, min}
use Rattle.std.specs.List.{range_with_len}
use Rattle.bool_functions.specs.Tree.{value_by}
use Rattle.bool_functions.specs.Point.{entry_of}
use Rattle.bool_functions.proofs.blocks.table.Given as goal

-- the values so far are those of the first points
abbrev pub invariant-loop-block : goal.invariant-loop-block
invariant-loop-block l = l.values.items ≡ map (λ k. value_by (entry_of l.places k) l.node) (range_with_len 0 (min (64 * l.block) l.count))
