-- The statements that each member of a bus or bundle has.
use Rattle.std.proofs.Common.{◌≡◌, ℕ, List, [], ◌∷◌, ◌++◌, map, Some, refl, sym, ap, ◌∙◌}
use Rattle.std.specs.Prelude.{All, filter}
use Rattle.std.proofs.lemmas.List.{map-append}
use Rattle.std.proofs.lemmas.List.Elements.{All-nil, All-cons}
use Rattle.liberty_groups.specs.declared.tree.Item.{Item}
use Rattle.bus_texts.specs.declared.vectors.Vector.{Vector}
use Rattle.bank_cells.specs.declared.shared.Shared.{Shared}
use Rattle.bank_refusals.specs.Members.{is_shared}
use Rattle.bank_cells.specs.Expanded.{pin_item}
use Rattle.bank_cells.specs.Fixed.{SharedItem, shown_shared, shared_of, shared_items, fixed_timing, IsSharedOf, items_of}

abbrev head_of : SharedItem → List SharedItem → SharedItem
head_of one [] = one
head_of one (other ∷ others) = other

abbrev tail_of : List SharedItem → List SharedItem
tail_of [] = []
tail_of (one ∷ others) = others

each : (vectors : List Vector) (shared : List Shared) (items : List Item)
    → map shown_shared shared ≡ map (shared_of vectors) items → All (IsSharedOf vectors) shared
each vectors [] items e = All-nil (IsSharedOf vectors)
each vectors (one ∷ shared) [] e = absurd cc
each vectors (one ∷ shared) (item ∷ items) e =
    let first : shown_shared one ≡ shared_of vectors item = ap (head_of (shown_shared one)) e in
    let same : one.item.now ≡ item = ap (λ (s : SharedItem). s.item) first in
    All-cons (IsSharedOf vectors) one shared (ap (λ (s : SharedItem). s.made) first ∙ ap (fixed_timing vectors) (sym same))
    (each vectors shared items (ap tail_of e))

them : (vectors : List Vector) (shared : List Shared) (items : List Item)
    → map shown_shared shared ≡ map (shared_of vectors) items → items_of shared ≡ items
them vectors [] [] e = refl
them vectors [] (item ∷ items) e = absurd cc
them vectors (one ∷ shared) [] e = absurd cc
them vectors (one ∷ shared) (item ∷ items) e =
    let first : one.item.now ≡ item = ap (λ (s : SharedItem). s.item) (ap (head_of (shown_shared one)) e) in
    ap (λ i. i ∷ items_of shared) first ∙ ap (λ rest. item ∷ rest) (them vectors shared items (ap tail_of e))

pub all_of : (vectors : List Vector) (items : List Item) (shared : List Shared)
    → map shown_shared shared ≡ shared_items vectors items → All (IsSharedOf vectors) shared
all_of vectors items shared e = each vectors shared (filter is_shared items) e

pub items_are : (vectors : List Vector) (items : List Item) (shared : List Shared)
    → map shown_shared shared ≡ shared_items vectors items
    → items_of shared ≡ filter is_shared items
items_are vectors items shared e = them vectors shared (filter is_shared items) e

module _ (vectors : List Vector) (at : ℕ) (statements : List Item) (shared : List Shared) (own : List Item) where
  all_items : map shown_shared shared ≡ shared_items vectors statements
      → items_of shared ++ own ≡ filter is_shared statements ++ own
  all_items e = ap (λ items. items ++ own) (items_are vectors statements shared e)

  -- the statements of a member as they become
  pub made_items :
      (empty first all : List Item) → map shown_shared shared ≡ shared_items vectors statements → empty ≡ []
      → first ≡ empty ++ map (pin_item vectors (Some at)) (items_of shared) → all ≡ first ++ map (pin_item vectors (Some at)) own
      → all ≡ map (pin_item vectors (Some at)) (filter is_shared statements ++ own)
  made_items empty first all e none some more =
      more ∙ ap (λ items. items ++ map (pin_item vectors (Some at)) own)
      (some ∙ ap (λ items. items ++ map (pin_item vectors (Some at)) (items_of shared)) none)
      ∙ sym (map-append (pin_item vectors (Some at)) (items_of shared) own) ∙ ap (map (pin_item vectors (Some at))) (all_items e)
