-- The attributes among some of a group's statements.
use Rattle.std.proofs.Common.{◌≡◌, ℕ, Bool, true, false, not, List, [], ◌∷◌, refl, ap, filter, None}
use Rattle.std.specs.List.{cons_option}
use Rattle.liberty_groups.specs.declared.tree.Item.{Item, out-Item}
use Rattle.liberty_groups.specs.declared.tree.Item.TheOpen.{Item-F}
use Rattle.liberty_groups.specs.declared.tree.Group.{Group}
use Rattle.liberty_groups.specs.Attributes.{simple_named, attributes_named}

pub not_false : (b : Bool) → not b ≡ false → b ≡ true
not_false true h = refl
not_false false h = absurd cc

-- Those of a name are kept where no statement that goes is one.
pub attributes_kept :
    (name : List ℕ) (stays : Item-F Item Group → Bool)
    → ((one : Item-F Item Group) → stays one ≡ false → simple_named name one ≡ None)
    → (items : List Item) → attributes_named name (filter (λ item. stays (out-Item item)) items) ≡ attributes_named name items
attributes_kept name stays none [] = refl
attributes_kept name stays none (one ∷ items) = by (stays (out-Item one)) refl (attributes_kept name stays none items)
  where
    by : (b : Bool) → stays (out-Item one) ≡ b
        → attributes_named name (filter (λ item. stays (out-Item item)) items) ≡ attributes_named name items
        → attributes_named name (filter (λ item. stays (out-Item item)) (one ∷ items)) ≡ attributes_named name (one ∷ items)
    by true e h = rw e (ap (cons_option (simple_named name (out-Item one))) h)
    by false e h = rw e (rw (none (out-Item one) e) h)
