use Rattle.std.proofs.Common.{◌≡◌, ◌++◌, map, drop, codes}
use Rattle.liberty_groups.specs.Attributes.{groups_named}
use Rattle.timing_arcs.specs.Timing.{timing_groups}
use Rattle.core_groups.proofs.driver_groups.timing_groups.Given as goal

-- the groups so far, with those among the other statements, are all
abbrev pub invariant-loop-item : goal.invariant-loop-item
invariant-loop-item l =
    map (λ group. group.now) l.groups.items ++ groups_named (codes "timing") (drop l.item-index l.pin.items) ≡ timing_groups l.pin
