use Rattle.std.proofs.Common.{◌≡◌, drop}
use Rattle.liberty_groups.specs.Attributes.{groups_named}
use Rattle.timing_arcs.proofs.timing_type.has_group.Given as goal

-- no statement so far is such a group
abbrev pub invariant-loop-item : goal.invariant-loop-item
invariant-loop-item l = groups_named l.name (drop l.item-index l.group.items) ≡ groups_named l.name l.group.items
