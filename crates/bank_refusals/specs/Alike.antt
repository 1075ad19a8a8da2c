-- Buses and bundles whose members have the same statements, since these name no bus, bundle or variable of a bank.
use Rattle.std.specs.Prelude.{Bool, true, not, ◌&&◌, ◌||◌, List, codes}
use Rattle.std.specs.List.{list_all}
use Rattle.liberty_groups.specs.declared.tree.Item.{Item, out-Item}
use Rattle.liberty_groups.specs.declared.tree.Item.TheOpen.{Item-F}
use Rattle.liberty_groups.specs.declared.tree.Item.TheOpen as layer
use Rattle.liberty_groups.specs.declared.tree.Group.{Group}
use Rattle.liberty_groups.specs.Attributes.{simple_named}
use Rattle.bus_texts.specs.declared.vectors.Vector.{Vector}
use Rattle.bus_texts.specs.Vectors.{is_called}
use Rattle.bank_refusals.specs.Fixed.{names_none, is_fixed}

-- A text of a pin names no bus, bundle or variable of a bank.
abbrev pub text_stays : List Vector → Item-F Item Group → Bool
text_stays vectors item =
    names_none vectors (simple_named (codes "function") item)
    && (names_none vectors (simple_named (codes "state_function") item)
    && names_none vectors (simple_named (codes "three_state") item))

-- A group of a bus or bundle is not one of its inner pins, and a `timing` group becomes the same at each position.
abbrev pub group_stays : List Vector → Item-F Item Group → Bool
group_stays vectors (layer.Simple name value at) = true
group_stays vectors (layer.Complex name arguments at) = true
group_stays vectors (layer.Inner group) =
    not (is_called (codes "pin") group) && (not (is_called (codes "timing") group) || list_all (is_fixed vectors) group.items)

-- A statement of a bus or bundle becomes the same for each of its members.
abbrev pub stays : List Vector → Item → Bool
stays vectors item = text_stays vectors (out-Item item) && group_stays vectors (out-Item item)

-- The members of a bus or bundle have the same statements, since all of them become the same.
abbrev pub are_alike : List Vector → Group → Bool
are_alike vectors group = list_all (stays vectors) group.items
