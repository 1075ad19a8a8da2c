-- The test of two trees for equality.
use Rattle.std.proofs.Common.{◌≡◌, ℕ, Bool, true, false, ◌==◌, ◌↔◌, refl, sym, ap, ◌∙◌, subst, arith}
use Rattle.std.specs.Prelude.{IsTrue}
use Rattle.std.proofs.lemmas.Bool.{cases_Bool, and_parts, eqb-true, and_from as both_true, false_from_ne_true as false_where}
use Rattle.std.proofs.lemmas.Bool.Decides.{nat_tests}
use Rattle.bool_functions.specs.declared.tree.Node.{Node, out-Node, roll-Node}
use Rattle.bool_functions.specs.declared.tree.Node.TheVariants as node
use Rattle.bool_functions.specs.declared.tree.Node.TheOpen.{Node-F}
use Rattle.bool_functions.specs.declared.tree.Node.TheViews.{roll-out-Node, out-roll-Node, rolls-Zero, rolls-One, rolls-Name}
use Rattle.bool_functions.specs.declared.tree.Node.TheViews.{rolls-Not, rolls-Xor, rolls-And, rolls-Or}
use Rattle.bool_functions.proofs.Trees.{every_tree, fold-Zero, fold-One, fold-Name, fold-Not, fold-Xor, fold-And, fold-Or}
use Rattle.std.proofs.Math.Logic.{inl, inr}
use Rattle.bool_functions.specs.SameTrees.{same_step, same_tree}
use Rattle.bool_functions.specs.Key.{key_of}

-- what an operator that equals another one is
from_zero : (k : Node-F Node) → same_step Node-F.Zero k ≡ true → k ≡ Node-F.Zero
from_zero Node-F.Zero h = refl
from_zero _ h = absurd cc

from_one : (k : Node-F Node) → same_step Node-F.One k ≡ true → k ≡ Node-F.One
from_one Node-F.One h = refl
from_one _ h = absurd cc

from_name : (i : ℕ) (k : Node-F Node) → same_step (Node-F.Name i) k ≡ true → k ≡ Node-F.Name i
from_name i (Node-F.Name j) h = ap (λ n. Node-F.Name n) (sym (eqb-true i j h))
from_name i _ h = absurd cc

from_not : (p : Node → Bool) (k : Node-F Node) → same_step (Node-F.Not p) k ≡ true → (g : Node) × (k ≡ Node-F.Not g)
    × (p g ≡ true)
from_not p (Node-F.Not g) h = (g, refl, h)
from_not p _ h = absurd cc

from_xor : (p q : Node → Bool) (k : Node-F Node) → same_step (Node-F.Xor p q) k ≡ true → (g : Node) × (h : Node)
    × (k ≡ Node-F.Xor g h) × (p g ≡ true) × (q h ≡ true)
from_xor p q (Node-F.Xor g h) e = let parts = and_parts (p g) (q h) e in (g, h, refl, parts.0, parts.1)
from_xor p q _ e = absurd cc

from_and : (p q : Node → Bool) (k : Node-F Node) → same_step (Node-F.And p q) k ≡ true → (g : Node) × (h : Node)
    × (k ≡ Node-F.And g h) × (p g ≡ true) × (q h ≡ true)
from_and p q (Node-F.And g h) e = let parts = and_parts (p g) (q h) e in (g, h, refl, parts.0, parts.1)
from_and p q _ e = absurd cc

from_or : (p q : Node → Bool) (k : Node-F Node) → same_step (Node-F.Or p q) k ≡ true → (g : Node) × (h : Node)
    × (k ≡ Node-F.Or g h) × (p g ≡ true) × (q h ≡ true)
from_or p q (Node-F.Or g h) e = let parts = and_parts (p g) (q h) e in (g, h, refl, parts.0, parts.1)
from_or p q _ e = absurd cc

abbrev step : Node-F (Node → Bool) → Node → Bool
step layer other = same_step layer (out-Node other)

-- a tree by its top operator
by_top : (g : Node) (k : Node-F Node) → out-Node g ≡ k → roll-Node k ≡ g
by_top g k e = ap roll-Node (sym e) ∙ roll-out-Node g

abbrev Equals : Node → Type 0
Equals f = (g : Node) → same_tree f g ≡ true → f ≡ g

equals-not : (f : Node) → Equals f → Equals (node.Not f)
equals-not f is g e =
    let (h, top, part) = from_not (same_tree f) (out-Node g) (sym (ap (λ t. t g) (fold-Not (Node → Bool) step f)) ∙ e) in
    ap node.Not (is h part) ∙ sym (rolls-Not h) ∙ by_top g (Node-F.Not h) top

-- the same of an operator of two trees, where the other one has that operator on trees that pass
equals_two :
    (make : Node → Node → Node) (layer : Node → Node → Node-F Node) → ((h j : Node) → make h j ≡ roll-Node (layer h j))
    → (f k g : Node) → Equals f → Equals k
    → ((h : Node) × (j : Node) × (out-Node g ≡ layer h j) × (same_tree f h ≡ true) × (same_tree k j ≡ true)) → make f k ≡ g
equals_two make layer rolled f k g is also parts =
    let (h, j, top, left, right) = parts in
    ap (λ x. make x k) (is h left) ∙ ap (make h) (also j right) ∙ rolled h j ∙ by_top g (layer h j) top

equals-xor : (f k : Node) → Equals f → Equals k → Equals (node.Xor f k)
equals-xor f k is also g e =
    equals_two (λ h j. node.Xor h j) (λ h j. Node-F.Xor h j) (λ h j. sym (rolls-Xor h j)) f k g is also
    (from_xor (same_tree f) (same_tree k) (out-Node g) (sym (ap (λ t. t g) (fold-Xor (Node → Bool) step f k)) ∙ e))

equals-and : (f k : Node) → Equals f → Equals k → Equals (node.And f k)
equals-and f k is also g e =
    equals_two (λ h j. node.And h j) (λ h j. Node-F.And h j) (λ h j. sym (rolls-And h j)) f k g is also
    (from_and (same_tree f) (same_tree k) (out-Node g) (sym (ap (λ t. t g) (fold-And (Node → Bool) step f k)) ∙ e))

equals-or : (f k : Node) → Equals f → Equals k → Equals (node.Or f k)
equals-or f k is also g e =
    equals_two (λ h j. node.Or h j) (λ h j. Node-F.Or h j) (λ h j. sym (rolls-Or h j)) f k g is also
    (from_or (same_tree f) (same_tree k) (out-Node g) (sym (ap (λ t. t g) (fold-Or (Node → Bool) step f k)) ∙ e))

-- trees that pass the test are equal
pub same_tree-equal : (f : Node) → Equals f
same_tree-equal = every_tree Equals record {
  zero_leaf = λ g e. sym rolls-Zero
      ∙ by_top g Node-F.Zero (from_zero (out-Node g) (sym (ap (λ t. t g) (fold-Zero (Node → Bool) step)) ∙ e));
  one_leaf = λ g e. sym rolls-One ∙ by_top g Node-F.One
      (from_one (out-Node g) (sym (ap (λ t. t g) (fold-One (Node → Bool) step)) ∙ e));
  name_leaf = λ i g e. sym (rolls-Name i)
      ∙ by_top g (Node-F.Name i) (from_name i (out-Node g) (sym (ap (λ t. t g) (fold-Name (Node → Bool) step i)) ∙ e));
  not_of = equals-not;
  xor_of = equals-xor;
  and_of = equals-and;
  or_of = equals-or;
}

-- the top operator of a tree
top_of : (g : Node) (k : Node-F Node) → roll-Node k ≡ g → out-Node g ≡ k
top_of g k e = ap out-Node (sym e) ∙ out-roll-Node k

same-number : (i : ℕ) → (i == i) ≡ true
same-number i = grind (arith, nat_tests)

abbrev Passes : Node → Type 0
Passes f = same_tree f f ≡ true

-- a tree passes with itself
pub same_tree-refl : (f : Node) → Passes f
same_tree-refl = every_tree Passes record {
  zero_leaf = ap (λ t. t node.Zero) (fold-Zero (Node → Bool) step)
      ∙ ap (same_step Node-F.Zero) (top_of node.Zero Node-F.Zero rolls-Zero);
  one_leaf = ap (λ t. t node.One) (fold-One (Node → Bool) step)
      ∙ ap (same_step Node-F.One) (top_of node.One Node-F.One rolls-One);
  name_leaf = λ i. ap (λ t. t (node.Name i)) (fold-Name (Node → Bool) step i)
      ∙ ap (same_step (Node-F.Name i)) (top_of (node.Name i) (Node-F.Name i) (rolls-Name i)) ∙ same-number i;
  not_of = λ f is. ap (λ t. t (node.Not f)) (fold-Not (Node → Bool) step f)
      ∙ ap (same_step (Node-F.Not (same_tree f))) (top_of (node.Not f) (Node-F.Not f) (rolls-Not f)) ∙ is;
  xor_of = λ f g is also. ap (λ t. t (node.Xor f g)) (fold-Xor (Node → Bool) step f g)
      ∙ ap (same_step (Node-F.Xor (same_tree f) (same_tree g))) (top_of (node.Xor f g) (Node-F.Xor f g) (rolls-Xor f g))
      ∙ both_true _ _ is also;
  and_of = λ f g is also. ap (λ t. t (node.And f g)) (fold-And (Node → Bool) step f g)
      ∙ ap (same_step (Node-F.And (same_tree f) (same_tree g))) (top_of (node.And f g) (Node-F.And f g) (rolls-And f g))
      ∙ both_true _ _ is also;
  or_of = λ f g is also. ap (λ t. t (node.Or f g)) (fold-Or (Node → Bool) step f g)
      ∙ ap (same_step (Node-F.Or (same_tree f) (same_tree g))) (top_of (node.Or f g) (Node-F.Or f g) (rolls-Or f g))
      ∙ both_true _ _ is also;
}

-- what tells whether two trees are equal is this test
pub told_same : (b : Bool) (f g : Node) → IsTrue b ↔ (f ≡ g) → b ≡ same_tree f g
told_same true f g told = sym (subst (λ h. same_tree f h ≡ true) (told.0 refl) (same_tree-refl f))
told_same false f g told = sym (false_where (same_tree f g) (λ e. let found : false ≡ true = told.1 (same_tree-equal f g e)
    in absurd cc))

-- trees with unlike numbers are unlike
pub unlike-keys : (f g : Node) → (key_of f ≡ key_of g → ⊥) → same_tree f g ≡ false
unlike-keys f g h =
    elim (cases_Bool (same_tree f g)) [
      | inl same ↦ absurd (h (ap key_of (same_tree-equal f g same)))
      | inr other ↦ other
    ]
