use Rattle.std.proofs.Common.{◌≡◌, map, drop}
use Rattle.cell_machine.specs.Delay.{lesser, least}
use Rattle.liberty_groups.specs.Attributes.{Attribute, attributes_named}
use Rattle.cell_attributes.specs.Groups.{offsets_of}
use Rattle.cell_reader.proofs.scans.first_offset.Given as goal

-- the least so far, with that of the other statements, is the least of all
abbrev pub invariant-loop-item : goal.invariant-loop-item
invariant-loop-item l = lesser l.found (least (map (λ (attribute : Attribute). attribute.at) (attributes_named l.name (drop l.item-index l.group.items)))) ≡ least (offsets_of l.name l.group)
