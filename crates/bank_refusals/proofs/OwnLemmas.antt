-- The statements that a member has of the inner pins that name it.
use Rattle.std.proofs.Common.{◌≡◌, ℕ, Bool, true, false, ◌&&◌, List, [], ◌∷◌, ◌++◌, Some, None, if◌then◌else◌, refl, sym, ap}
use Rattle.std.proofs.Common.{◌∙◌, codes}
use Rattle.std.specs.Prelude.{flat_map}
use Rattle.std.specs.List.{list_any, cons_option}
use Rattle.liberty_groups.specs.declared.tree.Item.{Item, out-Item}
use Rattle.liberty_groups.specs.declared.tree.Item.TheOpen.{Item-F}
use Rattle.liberty_groups.specs.declared.tree.Item.TheOpen as layer
use Rattle.liberty_groups.specs.declared.tree.Group.{Group}
use Rattle.liberty_groups.specs.Attributes.{group_named}
use Rattle.bus_texts.specs.declared.vectors.Vector.{Vector}
use Rattle.bus_texts.specs.Vectors.{is_called}
use Rattle.bank_refusals.specs.Members.{names_member, inner_pins, inner_pin_items, own_items_as, own_items}

module _ (vector : Vector) (at : ℕ) (member : List ℕ) where
  abbrev own_of : List Group → List Item
  own_of pins = flat_map (inner_pin_items vector at member) pins

  of_first : (y : Item-F Item Group) (pins : List Group)
      → own_of (cons_option (group_named (codes "pin") y) pins) ≡ own_items_as vector at member y ++ own_of pins
  of_first (layer.Simple name value offset) pins = refl
  of_first (layer.Complex name arguments offset) pins = refl
  of_first (layer.Inner group) pins = by (is_called (codes "pin") group) refl
    where
      by : (b : Bool) → is_called (codes "pin") group ≡ b
          → own_of (cons_option (if b then Some group else None) pins) ≡ inner_pin_items vector at member group ++ own_of pins
      by true e = refl
      by false e =
          sym (ap (λ b. (if b && list_any (names_member vector at member) group.arguments then group.items else [])
          ++ own_of pins) e)

  pub own_are : (items : List Item) → own_of (inner_pins items) ≡ flat_map (own_items vector at member) items
  own_are [] = refl
  own_are (item ∷ items) =
      of_first (out-Item item) (inner_pins items) ∙ ap (λ l. own_items vector at member item ++ l) (own_are items)
