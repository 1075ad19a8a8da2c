use Rattle.std.proofs.Common.{◌≡◌, ◌++◌, drop, map}
use Rattle.scan_cells.specs.TestGroup.{untimed_item}
use Rattle.scan_cells.proofs.test_group.untimed_items.Given as goal

abbrev pub invariant-loop-group : goal.invariant-loop-group
invariant-loop-group l =
    l.items ++ map untimed_item (map (λ group. group.now) (drop l.group-index l.groups))
    ≡ map untimed_item (map (λ group. group.now) l.groups)
