-- Trees by induction, and what their folds compute.
use Rattle.std.proofs.Common.{◌≡◌, ℕ, List, [], ◌∷◌, ◌++◌, refl, sym, ap, subst, ◌∙◌}
use Rattle.std.proofs.lemmas.List.Folds.{list_any-append}
use Rattle.bool_functions.specs.Support.{inserted, insert_all}
use Rattle.bool_functions.specs.declared.tree.Node.{Node}
use Rattle.bool_functions.specs.declared.tree.Node.TheVariants as node
use Rattle.bool_functions.specs.declared.tree.Node.TheOpen.{Node-F}
use Rattle.bool_functions.specs.declared.tree.Node.TheViews.{roll-Node, rolls-Zero, rolls-One, rolls-Name, rolls-Not, rolls-Xor}
use Rattle.bool_functions.specs.declared.tree.Node.TheViews.{rolls-And, rolls-Or}
use Rattle.bool_functions.specs.declared.tree.Node.TheFolds.{fold-Node, fold-roll-Node, ind-Node, map-Node}
use Rattle.bool_functions.specs.Tree.{names_step, names_of}

module _ (A : Type 0) (step : Node-F A → A) where
  pub fold-Zero : fold-Node A step node.Zero ≡ step Node-F.Zero
  fold-Zero = ap (fold-Node A step) (sym rolls-Zero) ∙ fold-roll-Node A step Node-F.Zero

  pub fold-One : fold-Node A step node.One ≡ step Node-F.One
  fold-One = ap (fold-Node A step) (sym rolls-One) ∙ fold-roll-Node A step Node-F.One

  pub fold-Name : (i : ℕ) → fold-Node A step (node.Name i) ≡ step (Node-F.Name i)
  fold-Name i = ap (fold-Node A step) (sym (rolls-Name i)) ∙ fold-roll-Node A step (Node-F.Name i)

  pub fold-Not : (f : Node) → fold-Node A step (node.Not f) ≡ step (Node-F.Not (fold-Node A step f))
  fold-Not f = ap (fold-Node A step) (sym (rolls-Not f)) ∙ fold-roll-Node A step (Node-F.Not f)

  pub fold-Xor : (f g : Node) → fold-Node A step (node.Xor f g) ≡ step (Node-F.Xor (fold-Node A step f) (fold-Node A step g))
  fold-Xor f g = ap (fold-Node A step) (sym (rolls-Xor f g)) ∙ fold-roll-Node A step (Node-F.Xor f g)

  pub fold-And : (f g : Node) → fold-Node A step (node.And f g) ≡ step (Node-F.And (fold-Node A step f) (fold-Node A step g))
  fold-And f g = ap (fold-Node A step) (sym (rolls-And f g)) ∙ fold-roll-Node A step (Node-F.And f g)

  pub fold-Or : (f g : Node) → fold-Node A step (node.Or f g) ≡ step (Node-F.Or (fold-Node A step f) (fold-Node A step g))
  fold-Or f g = ap (fold-Node A step) (sym (rolls-Or f g)) ∙ fold-roll-Node A step (Node-F.Or f g)

-- what holds of the leaves, and of each operator where it holds of its parts
pub record Cases (P : Node → Type 0) : Type 0 where
  pub zero_leaf : P node.Zero
  pub one_leaf : P node.One
  pub name_leaf : (i : ℕ) → P (node.Name i)
  pub not_of : (f : Node) → P f → P (node.Not f)
  pub xor_of : (f g : Node) → P f → P g → P (node.Xor f g)
  pub and_of : (f g : Node) → P f → P g → P (node.And f g)
  pub or_of : (f g : Node) → P f → P g → P (node.Or f g)

module _ (P : Node → Type 0) (cases : Cases P) where
  rolled : (y : Node-F ((f : Node) × P f)) → P (roll-Node (map-Node ((f : Node) × P f) Node (λ e. e.0) y))
  rolled Node-F.Zero = subst P (sym rolls-Zero) cases.zero_leaf
  rolled Node-F.One = subst P (sym rolls-One) cases.one_leaf
  rolled (Node-F.Name i) = subst P (sym (rolls-Name i)) (cases.name_leaf i)
  rolled (Node-F.Not f) = subst P (sym (rolls-Not f.0)) (cases.not_of f.0 f.1)
  rolled (Node-F.Xor f g) = subst P (sym (rolls-Xor f.0 g.0)) (cases.xor_of f.0 g.0 f.1 g.1)
  rolled (Node-F.And f g) = subst P (sym (rolls-And f.0 g.0)) (cases.and_of f.0 g.0 f.1 g.1)
  rolled (Node-F.Or f g) = subst P (sym (rolls-Or f.0 g.0)) (cases.or_of f.0 g.0 f.1 g.1)

  -- then it holds of every tree
  pub every_tree : (f : Node) → P f
  every_tree = ind-Node P (λ x y is. subst (λ z. P (roll-Node z)) is (rolled y))

-- the names that are written in a tree, by its top
pub names_Zero : names_of node.Zero ≡ []
names_Zero = fold-Zero (List ℕ) names_step

pub names_One : names_of node.One ≡ []
names_One = fold-One (List ℕ) names_step

pub names_Name : (i : ℕ) → names_of (node.Name i) ≡ i ∷ []
names_Name i = fold-Name (List ℕ) names_step i

pub names_Not : (f : Node) → names_of (node.Not f) ≡ names_of f
names_Not f = fold-Not (List ℕ) names_step f

pub names_Xor : (f g : Node) → names_of (node.Xor f g) ≡ names_of f ++ names_of g
names_Xor f g = fold-Xor (List ℕ) names_step f g

pub names_And : (f g : Node) → names_of (node.And f g) ≡ names_of f ++ names_of g
names_And f g = fold-And (List ℕ) names_step f g

pub names_Or : (f g : Node) → names_of (node.Or f g) ≡ names_of f ++ names_of g
names_Or f g = fold-Or (List ℕ) names_step f g

pub insert_all_append : (js is ks : List ℕ) → insert_all js (is ++ ks) ≡ insert_all (insert_all js is) ks
insert_all_append js [] ks = refl
insert_all_append js (i ∷ is) ks = insert_all_append (inserted i js) is ks

pub ruleset names_by_top = (names_Name, names_Not, names_Xor, names_And, names_Or, list_any-append, insert_all_append)
