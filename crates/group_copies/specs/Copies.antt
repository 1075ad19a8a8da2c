-- Copies of groups that differ in their statements.
use Rattle.std.specs.Prelude.{List}
use Rattle.liberty_groups.specs.declared.tree.Item.{Item}
use Rattle.liberty_groups.specs.declared.tree.Group.{Group, roll-Group}

-- the group with these statements in place of its own
abbrev pub with_items : Group → List Item → Group
with_items group items =
    roll-Group (record { name = group.name; arguments = group.arguments; items = items; at = group.at })
