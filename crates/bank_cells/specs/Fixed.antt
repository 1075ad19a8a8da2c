-- The statements that each member of a bus or bundle has, with what those become that become the same at each position.
use Rattle.std.specs.Prelude.{◌≡◌, ◌&&◌, List, map, filter, codes, Option, Some, None, if◌then◌else◌}
use Rattle.std.specs.List.{list_all}
use Rattle.liberty_groups.specs.declared.tree.Item.{Item, out-Item}
use Rattle.liberty_groups.specs.declared.tree.Item.TheOpen.{Item-F}
use Rattle.liberty_groups.specs.declared.tree.Item.TheOpen as layer
use Rattle.liberty_groups.specs.declared.tree.Group.{Group}
use Rattle.bus_texts.specs.declared.vectors.Vector.{Vector}
use Rattle.bus_texts.specs.Vectors.{is_called}
use Rattle.bank_cells.specs.declared.shared.Shared.{Shared}
use Rattle.bank_refusals.specs.Members.{is_shared}
use Rattle.bank_refusals.specs.Fixed.{is_fixed}
use Rattle.bank_cells.specs.Expanded.{timing_at}

-- What a timing group becomes at each position, where that is the same.
abbrev pub fixed_as : List Vector → Item-F Item Group → Option Group
fixed_as vectors (layer.Simple name value at) = None
fixed_as vectors (layer.Complex name arguments at) = None
fixed_as vectors (layer.Inner group) =
    if is_called (codes "timing") group && list_all (is_fixed vectors) group.items then Some (timing_at vectors (Some 0) group)
    else None

abbrev pub fixed_timing : List Vector → Item → Option Group
fixed_timing vectors item = fixed_as vectors (out-Item item)

-- A statement that each member of a bus or bundle has, with that.
pub record SharedItem : Type 0 where
  pub item : Item
  pub made : Option Group

abbrev pub shown_shared : Shared → SharedItem
shown_shared shared = record { item = shared.item.now; made = shared.made }

abbrev pub shared_of : List Vector → Item → SharedItem
shared_of vectors item = record { item = item; made = fixed_timing vectors item }

-- These are the statements that each member of a bus or bundle has, of whose statements these are all.
abbrev pub shared_items : List Vector → List Item → List SharedItem
shared_items vectors items = map (shared_of vectors) (filter is_shared items)

abbrev pub IsSharedOf : List Vector → Shared → Type 0
IsSharedOf vectors shared = shared.made ≡ fixed_timing vectors shared.item.now

abbrev pub items_of : List Shared → List Item
items_of shared = map (λ (one : Shared). one.item.now) shared
