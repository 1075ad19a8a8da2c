-- Functions whose trees are held in unlike ways, and the values that are kept of long ones.
use Rattle.std.proofs.Common.{◌≡◌, ◌^◌, ℕ, Bool, false, List, length, slice_get, Some, EachIndex, Contains, sym, ap, subst, ◌∙◌}
use Rattle.std.proofs.Common.{inl, inr}
use Rattle.std.proofs.lemmas.Bool.{cases_Bool}
use Rattle.bool_functions.specs.declared.tree.Node.{Node}
use Rattle.bool_functions.specs.declared.functions.Form.{Form}
use Rattle.bool_functions.specs.Tree.{value_by}
use Rattle.bool_functions.specs.Support.{support_of}
use Rattle.bool_functions.specs.Point.{entry_of, HasValues}
use Rattle.bool_functions.specs.declared.kept_values.KeptValues.{KeptValues}
use Rattle.bool_functions.specs.Kept.{AreOf}
use Rattle.bool_functions.specs.Code.{is_long}
use Rattle.bool_functions.specs.Form.{shown, holds_codes}
use Rattle.bool_functions.specs.SameTrees.{same_tree}
use Rattle.bool_functions.proofs.SameTreeLemmas.{same_tree-equal}
use Rattle.bool_functions.proofs.Supports.{support_has}
use Rattle.bool_functions.proofs.Tables.{entries_points, points_values}

-- a long tree is unlike a short one
pub unlike-forms : (a b : Form) (f g : Node) → shown a ≡ f → shown b ≡ g → is_long (shown a) ≡ holds_codes a
    → is_long (shown b) ≡ holds_codes b
    → (holds_codes a ≡ holds_codes b → ⊥) → false ≡ same_tree f g
unlike-forms a b f g p q m n h =
    elim (cases_Bool (same_tree f g)) [
      | inl same ↦ absurd (h (sym m ∙ ap is_long (p ∙ same_tree-equal f g same ∙ sym q) ∙ n))
      | inr other ↦ sym other
    ]

-- the values of a tree over its names, by their numbers
pub values_of_names : (f : Node) (names places : List ℕ) (values : List Bool) → places ≡ names → names ≡ support_of f
    → length values ≡ 2 ^ length places
    → EachIndex values (λ k. slice_get values k ≡ Some (value_by (entry_of places k) f)) → HasValues names f values
values_of_names f names places values e is len each =
    subst (λ l. HasValues l f values) e
    (points_values places f values (λ i has. subst (λ l. Contains l i) (sym (e ∙ is)) ((support_has f i).1 has))
    (entries_points places f values len each))

-- the table over its own names of a tree whose values are kept
pub kept_len : (f : Node) (kept : KeptValues) → AreOf f kept → (places : List ℕ) (values : List Bool) → kept.names.items ≡ places
    → values ≡ kept.values.items → length values ≡ 2 ^ length places
kept_len f kept of places values e v = ap length v ∙ of.count ∙ ap (λ l. 2 ^ length l) e

pub kept_entries : (f : Node) (kept : KeptValues) → AreOf f kept → (places : List ℕ) (values : List Bool)
    → kept.names.items ≡ places → values ≡ kept.values.items
    → EachIndex values (λ k. slice_get values k ≡ Some (value_by (entry_of places k) f))
kept_entries f kept of places values e v =
    subst (λ vs. EachIndex vs (λ k. slice_get vs k ≡ Some (value_by (entry_of places k) f))) (sym v)
    (subst (λ l. EachIndex kept.values.items (λ k. slice_get kept.values.items k ≡ Some (value_by (entry_of l k) f))) e
    of.entries)
