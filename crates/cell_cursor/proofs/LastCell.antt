-- The items up to the last cell.
use Rattle.std.proofs.Common.{◌≡◌, ℕ, Bool, true, false, cond, List, [], ◌∷◌, ◌++◌, codes, refl, sym, ap, ◌∙◌}
use Rattle.std.specs.Str.{bytes_eq}
use Rattle.std.proofs.lemmas.List.{append_assoc}
use Rattle.liberty_groups.specs.declared.tree.Item.{Item, out-Item}
use Rattle.liberty_groups.specs.declared.tree.Item.TheOpen.{Item-F}
use Rattle.liberty_groups.specs.declared.tree.Group.{Group}
use Rattle.liberty_groups.specs.Library.{one_text}
use Rattle.cell_cursor.specs.declared.item.LibraryItem.{LibraryItem}
use Rattle.cell_cursor.specs.declared.item.LibraryItem.TheVariants as item
use Rattle.cell_cursor.specs.Given.{up_to_a_cell, up_to_last_cell, IsFrontOf}
use Rattle.cell_cursor.specs.Items.{named_item, given_by, given, is_group_by, is_group}

-- items behind which no cell stands
pub no_cell_behind : (items more : List LibraryItem) → up_to_last_cell more ≡ []
    → up_to_last_cell (items ++ more) ≡ up_to_last_cell items
no_cell_behind [] more h = h
no_cell_behind (one ∷ items) more h = ap (up_to_a_cell one) (no_cell_behind items more h)

front_by : (one : LibraryItem) (front items : List LibraryItem) → IsFrontOf front items
    → IsFrontOf (up_to_a_cell one front) (one ∷ items)
front_by (item.Cell group) front items h = (h.0, ap (λ (l : List LibraryItem). item.Cell group ∷ l) h.1)
front_by (item.Unit unit) [] items h = (item.Unit unit ∷ items, refl)
front_by (item.Unit unit) (next ∷ front) items h = (h.0, ap (λ (l : List LibraryItem). item.Unit unit ∷ l) h.1)
front_by (item.LeftOut at) [] items h = (item.LeftOut at ∷ items, refl)
front_by (item.LeftOut at) (next ∷ front) items h = (h.0, ap (λ (l : List LibraryItem). item.LeftOut at ∷ l) h.1)
front_by (item.BusType group) [] items h = (item.BusType group ∷ items, refl)
front_by (item.BusType group) (next ∷ front) items h = (h.0, ap (λ (l : List LibraryItem). item.BusType group ∷ l) h.1)

pub last_cell_front : (items : List LibraryItem) → IsFrontOf (up_to_last_cell items) items
last_cell_front [] = ([], refl)
last_cell_front (one ∷ items) = front_by one (up_to_last_cell items) items (last_cell_front items)

pub front_of_more : (front items more : List LibraryItem) → IsFrontOf front items → IsFrontOf front (items ++ more)
front_of_more front items more h = (h.0 ++ more, sym (append_assoc front h.0 more) ∙ ap (λ (l : List LibraryItem). l ++ more) h.1)

choice_no_cell : (x : Bool) (p q : List LibraryItem) → up_to_last_cell p ≡ [] → up_to_last_cell q ≡ []
    → up_to_last_cell (cond x p q) ≡ []
choice_no_cell true p q h i = h
choice_no_cell false p q h i = i

named_no_cell : (name : List ℕ) (at : ℕ) → up_to_last_cell (named_item name at) ≡ []
named_no_cell name at = choice_no_cell (bytes_eq name (codes "include_file")) (item.LeftOut at ∷ []) [] refl refl

given_no_cell : (layer : Item-F Item Group) → is_group_by layer ≡ false → up_to_last_cell (given_by layer) ≡ []
given_no_cell (Item-F.Simple name value at) h =
    choice_no_cell (bytes_eq name (codes "time_unit")) (item.Unit (record { value = one_text value; at = at }) ∷ [])
    (named_item name at) refl (named_no_cell name at)
given_no_cell (Item-F.Complex name values at) h = named_no_cell name at
given_no_cell (Item-F.Inner group) h = absurd cc

-- a statement that is no group is no cell
pub no_group_no_cell : (one : Item) → is_group one ≡ false → up_to_last_cell (given one) ≡ []
unfolding given
no_group_no_cell one h = given_no_cell (out-Item one) h
