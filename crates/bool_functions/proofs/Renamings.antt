-- The values of renamed functions.
use Rattle.std.proofs.Common.{◌≡◌, ℕ, Bool, not, ◌&&◌, ◌||◌, List, slice_index, sym, ap, ◌∙◌}
use Rattle.bool_functions.specs.declared.tree.Node.{Node}
use Rattle.bool_functions.specs.declared.tree.Node.TheVariants as node
use Rattle.bool_functions.specs.Tree.{value_step, value_by, renamed_step, renamed_by, xor}
use Rattle.bool_functions.proofs.Trees.{every_tree, fold-Zero, fold-One, fold-Name, fold-Not, fold-Xor, fold-And, fold-Or}

module _ (given : ℕ → Bool) (to : List ℕ) where
  abbrev through : ℕ → Bool
  through i = given (slice_index to i)

  abbrev Renames : Node → Type 0
  Renames f = value_by given (renamed_by to f) ≡ value_by through f

  both : (op : Bool → Bool → Bool) (f g : Node) → Renames f → Renames g
      → op (value_by given (renamed_by to f)) (value_by given (renamed_by to g)) ≡ op (value_by through f) (value_by through g)
  both op f g p q = ap (λ b. op b (value_by given (renamed_by to g))) p ∙ ap (λ b. op (value_by through f) b) q

  renamed_leaf : (leaf new : Node) → renamed_by to leaf ≡ new → value_by given new ≡ value_by through leaf → Renames leaf
  renamed_leaf leaf new e v = ap (value_by given) e ∙ v

  -- a renamed tree has the value of the tree where each name has the value of its new name
  pub value_by-renamed_by : (f : Node) → Renames f
  value_by-renamed_by = every_tree Renames (record {
    zero_leaf = renamed_leaf node.Zero node.Zero (fold-Zero Node (renamed_step to))
        (fold-Zero Bool (value_step given) ∙ sym (fold-Zero Bool (value_step through)));
    one_leaf = renamed_leaf node.One node.One (fold-One Node (renamed_step to))
        (fold-One Bool (value_step given) ∙ sym (fold-One Bool (value_step through)));
    name_leaf = λ i. renamed_leaf (node.Name i) (node.Name (slice_index to i)) (fold-Name Node (renamed_step to) i)
        (fold-Name Bool (value_step given) (slice_index to i) ∙ sym (fold-Name Bool (value_step through) i));
    not_of = λ f p. ap (value_by given) (fold-Not Node (renamed_step to) f) ∙ fold-Not Bool (value_step given) (renamed_by to f)
        ∙ ap not p ∙ sym (fold-Not Bool (value_step through) f);
    xor_of = λ f g p q. ap (value_by given) (fold-Xor Node (renamed_step to) f g)
        ∙ fold-Xor Bool (value_step given) (renamed_by to f) (renamed_by to g) ∙ both xor f g p q
        ∙ sym (fold-Xor Bool (value_step through) f g);
    and_of = λ f g p q. ap (value_by given) (fold-And Node (renamed_step to) f g)
        ∙ fold-And Bool (value_step given) (renamed_by to f) (renamed_by to g)
        ∙ both (λ a b. a && b) f g p q ∙ sym (fold-And Bool (value_step through) f g);
    or_of = λ f g p q. ap (value_by given) (fold-Or Node (renamed_step to) f g)
        ∙ fold-Or Bool (value_step given) (renamed_by to f) (renamed_by to g)
        ∙ both (λ a b. a || b) f g p q ∙ sym (fold-Or Bool (value_step through) f g);
  })
