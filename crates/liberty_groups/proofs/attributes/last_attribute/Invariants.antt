use Rattle.std.proofs.Common.{◌≡◌, drop}
use Rattle.std.specs.Prelude.{None}
use Rattle.std.specs.Option.{option_map}
use Rattle.liberty_groups.specs.Attributes.{attributes_named, last_or, shown}
use Rattle.liberty_groups.proofs.attributes.last_attribute.Given as goal

-- the last of the attributes from here on, or else the last so far, is the last of all
abbrev pub invariant-loop-item : goal.invariant-loop-item
invariant-loop-item l = last_or (option_map shown l.found) (attributes_named l.name (drop l.item-index l.group.items)) ≡ last_or None (attributes_named l.name l.group.items)
