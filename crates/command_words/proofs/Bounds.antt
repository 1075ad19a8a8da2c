-- The names of a tree are below its bound.
use Rattle.std.proofs.Common.{◌≡◌, ℕ, ◌+◌, ◌<◌, ◌≤◌, max, List, [], ◌∷◌, ◌++◌, Contains, subst, inl, inr, arith}
use Rattle.std.proofs.lemmas.List.Elements.{Contains-append_cases}
use Rattle.bool_functions.specs.declared.tree.Node.{Node}
use Rattle.bool_functions.specs.Tree.{bound_step, names_step, names_of, name_bound, Has}
use Rattle.bool_functions.proofs.Elements.{contains_cases, contains_none}
use Rattle.bool_functions.proofs.Trees.{every_tree, fold-Zero, fold-One, fold-Name, fold-Not, fold-Xor, fold-And, fold-Or}

abbrev IsBelow : Node → Type 0
IsBelow f = (i : ℕ) → Contains (names_of f) i → i < name_bound f

no_names : (names : List ℕ) (bound : ℕ) → names ≡ [] → (i : ℕ) → Contains names i → i < bound
no_names names bound none i has = absurd (contains_none i (subst (λ l. Contains l i) none has))

one_name : (n : ℕ) (names : List ℕ) (bound : ℕ) → names ≡ n ∷ [] → bound ≡ n + 1 → (i : ℕ) → Contains names i → i < bound
one_name n names bound e b i has =
    elim (contains_cases n [] i (subst (λ l. Contains l i) e has))
    [ inl same ↦ omega (arith, same, b) | inr none ↦ absurd (contains_none i none) ]

of_both : (f g : Node) (names : List ℕ) (bound : ℕ) → names ≡ names_of f ++ names_of g → bound ≡ max (name_bound f) (name_bound g)
    → IsBelow f → IsBelow g → (i : ℕ) → Contains names i → i < bound
of_both f g names bound e b p q i has =
    elim (Contains-append_cases (names_of f) (names_of g) i (subst (λ l. Contains l i) e has))
    [ inl left ↦ omega (arith, b, p i left) | inr right ↦ omega (arith, b, q i right) ]

every_name : (f : Node) → IsBelow f
every_name = every_tree IsBelow (record {
  zero_leaf = no_names _ _ (fold-Zero (List ℕ) names_step);
  one_leaf = no_names _ _ (fold-One (List ℕ) names_step);
  name_leaf = λ n. one_name n _ _ (fold-Name (List ℕ) names_step n) (fold-Name ℕ bound_step n);
  not_of = λ f p i has. rw (fold-Not ℕ bound_step f) (p i (subst (λ l. Contains l i) (fold-Not (List ℕ) names_step f) has));
  xor_of = λ f g. of_both f g _ _ (fold-Xor (List ℕ) names_step f g) (fold-Xor ℕ bound_step f g);
  and_of = λ f g. of_both f g _ _ (fold-And (List ℕ) names_step f g) (fold-And ℕ bound_step f g);
  or_of = λ f g. of_both f g _ _ (fold-Or (List ℕ) names_step f g) (fold-Or ℕ bound_step f g);
})

-- every name of a tree is below a number that its bound does not pass
pub has_below : (f : Node) (count : ℕ) → name_bound f ≤ count → (i : ℕ) → Has f i → i < count
has_below f count h i has = omega (arith, every_name f i has)
