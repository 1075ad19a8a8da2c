-- The numbers of the names in a tree.
use Rattle.std.proofs.Common.{◌≡◌, ℕ, ◌+◌, ◌<◌, ◌≤◌, max, Bool, true, false, not, ◌&&◌, List, [], ◌∷◌, ◌++◌, map, length, Option}
use Rattle.std.proofs.Common.{None, Some, is_none, if◌then◌else◌, refl, sym, subst, arith, unwrap_or, inl, inr, Contains}
use Rattle.std.proofs.Common.{bytes_eq, codes, ◌==◌}
use Rattle.std.proofs.lemmas.List.Quantifiers.{position-Some}
use Rattle.std.proofs.lemmas.List.Elements.{Contains-append_left, Contains-append_right, Contains-append_cases}
use Rattle.std.specs.Char.{is_ascii_digit, char_set_contains}
use Rattle.bool_functions.specs.declared.symbol.Symbol.{Symbol}
use Rattle.bool_functions.specs.declared.symbol.Symbol.TheVariants as symbol
use Rattle.bool_functions.specs.declared.tokens.Span.{Span}
use Rattle.bool_functions.specs.declared.tree.Node.{Node}
use Rattle.bool_functions.specs.declared.tree.Node.TheVariants as node
use Rattle.bool_functions.specs.Tree.{name_bound, bound_step, names_of, Has}
use Rattle.bool_functions.specs.NameList.{number_of}
use Rattle.bool_functions.specs.Token.{is_word_byte, is_name, digit_of, mark_of, symbol_of, spans, bytes_at}
use Rattle.bool_functions.specs.Grammar.{Rule, Takes}
use Rattle.bool_functions.specs.FunctionText.{FunctionText, first_unknown}
use Rattle.bool_functions.proofs.Elements.{contains_here, contains_cases, contains_none}
use Rattle.bool_functions.proofs.Trees.{every_tree, fold-Zero, fold-One, fold-Name, fold-Not, fold-Xor, fold-And, fold-Or}
use Rattle.bool_functions.proofs.Trees.{names_Zero, names_One, names_Name, names_Not, names_Xor, names_And, names_Or}

-- the bound of a tree by its top
pub bound_Zero : name_bound node.Zero ≡ 0
bound_Zero = fold-Zero ℕ bound_step

pub bound_One : name_bound node.One ≡ 0
bound_One = fold-One ℕ bound_step

pub bound_Name : (i : ℕ) → name_bound (node.Name i) ≡ i + 1
bound_Name i = fold-Name ℕ bound_step i

pub bound_Not : (f : Node) → name_bound (node.Not f) ≡ name_bound f
bound_Not f = fold-Not ℕ bound_step f

pub bound_Xor : (f g : Node) → name_bound (node.Xor f g) ≡ max (name_bound f) (name_bound g)
bound_Xor f g = fold-Xor ℕ bound_step f g

pub bound_And : (f g : Node) → name_bound (node.And f g) ≡ max (name_bound f) (name_bound g)
bound_And f g = fold-And ℕ bound_step f g

pub bound_Or : (f g : Node) → name_bound (node.Or f g) ≡ max (name_bound f) (name_bound g)
bound_Or f g = fold-Or ℕ bound_step f g

abbrev IsBelowBound : Node → Type 0
IsBelowBound f = (i : ℕ) → Has f i → i < name_bound f

two_below : (f g : Node) (names : List ℕ) (bound : ℕ) → names ≡ names_of f ++ names_of g
    → bound ≡ max (name_bound f) (name_bound g)
    → IsBelowBound f → IsBelowBound g → (i : ℕ) → Contains names i → i < bound
two_below f g names bound e b p q i has =
    elim (Contains-append_cases (names_of f) (names_of g) i (subst (λ l. Contains l i) e has))
    [ inl l ↦ (let h = p i l in omega arith) | inr r ↦ (let h = q i r in omega arith) ]

-- each written name is below the bound
pub has_below : (f : Node) → IsBelowBound f
has_below = every_tree IsBelowBound (record {
  zero_leaf = λ i has. absurd (contains_none i (subst (λ l. Contains l i) names_Zero has));
  one_leaf = λ i has. absurd (contains_none i (subst (λ l. Contains l i) names_One has));
  name_leaf = λ j i has. elim (contains_cases j [] i (subst (λ l. Contains l i) (names_Name j) has))
      [ inl same ↦ omega (arith, bound_Name j, same) | inr later ↦ absurd (contains_none i later) ];
  not_of = λ f p i has. let h = p i (subst (λ l. Contains l i) (names_Not f) has) in omega (arith, bound_Not f, h);
  xor_of = λ f g p q. two_below f g _ _ (names_Xor f g) (bound_Xor f g) p q;
  and_of = λ f g p q. two_below f g _ _ (names_And f g) (bound_And f g) p q;
  or_of = λ f g p q. two_below f g _ _ (names_Or f g) (bound_Or f g) p q;
})

abbrev IsLeastBound : Node → Type 0
IsLeastBound f = (n : ℕ) → ((i : ℕ) → Has f i → i < n) → name_bound f ≤ n

two_least : (f g : Node) (names : List ℕ) (bound : ℕ) → names ≡ names_of f ++ names_of g
    → bound ≡ max (name_bound f) (name_bound g)
    → IsLeastBound f → IsLeastBound g → (n : ℕ) → ((i : ℕ) → Contains names i → i < n) → bound ≤ n
two_least f g names bound e b p q n h =
    let l : name_bound f ≤ n = p n (λ i has. h i
    (subst (λ k. Contains k i) (sym e) (Contains-append_left (names_of f) (names_of g) i has))) in
    let r : name_bound g ≤ n = q n (λ i has. h i
    (subst (λ k. Contains k i) (sym e) (Contains-append_right (names_of f) (names_of g) i has))) in
    omega arith

-- and the bound is the least such number
pub bound_least : (f : Node) → IsLeastBound f
bound_least = every_tree IsLeastBound (record {
  zero_leaf = λ n h. omega (arith, bound_Zero);
  one_leaf = λ n h. omega (arith, bound_One);
  name_leaf = λ j n h. let l : j < n = h j (subst (λ k. Contains k j) (sym (names_Name j)) (contains_here j []))
      in omega (arith, bound_Name j, l);
  not_of = λ f p n h. let l = p n (λ i has. h i (subst (λ k. Contains k i) (sym (names_Not f)) has))
      in omega (arith, bound_Not f, l);
  xor_of = λ f g p q. two_least f g _ _ (names_Xor f g) (bound_Xor f g) p q;
  and_of = λ f g p q. two_least f g _ _ (names_And f g) (bound_And f g) p q;
  or_of = λ f g p q. two_least f g _ _ (names_Or f g) (bound_Or f g) p q;
})

-- the numbers of the names among some symbols are below n
abbrev Below : ℕ → List Symbol → Type 0
Below n [] = Unit {0}
Below n (symbol.Name i ∷ s) = (i < n) × Below n s
Below n (x ∷ s) = Below n s

-- so are those in a phrase's tree
bounded : {l : Rule} {s rest : List Symbol} {f : Node} → Takes l s f rest → (n : ℕ) → Below n s → (name_bound f ≤ n)
    × Below n rest
bounded (Takes.name {i = i}) n h = (omega (arith, bound_Name i, h.0), h.1)
bounded Takes.zero n h = (omega (arith, bound_Zero), h)
bounded Takes.one n h = (omega (arith, bound_One), h)
bounded (Takes.group t) n h = bounded t n h
bounded (Takes.quote {f = f} t) n h = let r = bounded t n h in (omega (arith, bound_Not f, r.0), r.1)
bounded (Takes.post t) n h = bounded t n h
bounded (Takes.bang {f = f} t) n h = let r = bounded t n h in (omega (arith, bound_Not f, r.0), r.1)
bounded (Takes.not t) n h = bounded t n h
bounded (Takes.caret {f = f} {g = g} t k) n h = let r = bounded t n h in let q = bounded k n r.1
    in (omega (arith, bound_Xor f g, r.0, q.0), q.1)
bounded (Takes.xor t) n h = bounded t n h
bounded (Takes.times {f = f} {g = g} t k) n h = let r = bounded t n h in let q = bounded k n r.1
    in (omega (arith, bound_And f g, r.0, q.0), q.1)
bounded (Takes.beside {f = f} {g = g} t k) n h = let r = bounded t n h in let q = bounded k n r.1
    in (omega (arith, bound_And f g, r.0, q.0), q.1)
bounded (Takes.and t) n h = bounded t n h
bounded (Takes.plus {f = f} {g = g} t k) n h = let r = bounded t n h in let q = bounded k n r.1
    in (omega (arith, bound_Or f g, r.0, q.0), q.1)

number_below : (names : List (List ℕ)) (w : List ℕ) (o : Option ℕ) → number_of names w ≡ o → is_none o ≡ false
    → unwrap_or o (length names) < length names
number_below names w None e h = absurd cc
number_below names w (Some i) e h = (position-Some (bytes_eq w) names i [] e).0

-- no name
abbrev IsPlain : Symbol → Type 0
IsPlain (symbol.Name i) = ⊥
IsPlain _ = Unit {0}

plain_if : (b : Bool) (x y : Symbol) → IsPlain x → IsPlain y → IsPlain (if b then x else y)
plain_if true x y p q = p
plain_if false x y p q = q

mark_plain : (b : ℕ) → IsPlain (mark_of b)
mark_plain b =
    plain_if (b == 33) _ _ tt (plain_if (b == 39) _ _ tt
    (plain_if (b == 94) _ _ tt (plain_if (char_set_contains (codes "*&") b) _ _ tt
    (plain_if (char_set_contains (codes "+|") b) _ _ tt (plain_if (b == 40) _ _ tt (plain_if (b == 41) _ _ tt tt))))))

digit_plain : (b : ℕ) (s : List ℕ) → IsPlain (digit_of b s)
digit_plain b [] = plain_if (b == 48) _ _ tt (plain_if (b == 49) _ _ tt tt)
digit_plain b (c ∷ s) = tt

below_plain : (n : ℕ) (x : Symbol) (s : List Symbol) → IsPlain x → Below n s → Below n (x ∷ s)
below_plain n (symbol.Name i) s p h = absurd p
below_plain n symbol.Zero s p h = h
below_plain n symbol.One s p h = h
below_plain n symbol.Bang s p h = h
below_plain n symbol.Quote s p h = h
below_plain n symbol.Caret s p h = h
below_plain n symbol.Times s p h = h
below_plain n symbol.Plus s p h = h
below_plain n symbol.Open s p h = h
below_plain n symbol.Close s p h = h
below_plain n symbol.Stray s p h = h

below_by : (names : List (List ℕ)) (b : ℕ) (w : List ℕ) (s : List Symbol) (digit word : Bool)
    → (word && not digit) && is_none (number_of names (b ∷ w)) ≡ false → Below (length names) s
    → Below (length names) ((if digit then digit_of b w
    else (if word then symbol.Name (unwrap_or (number_of names (b ∷ w)) (length names)) else mark_of b)) ∷ s)
below_by names b w s true word known h = below_plain (length names) (digit_of b w) s (digit_plain b w) h
below_by names b w s false true known h = (number_below names (b ∷ w) (number_of names (b ∷ w)) refl known, h)
below_by names b w s false false known h = below_plain (length names) (mark_of b) s (mark_plain b) h

symbol_below : (names : List (List ℕ)) (w : List ℕ) (s : List Symbol) → is_name w && is_none (number_of names w) ≡ false
    → Below (length names) s → Below (length names) (symbol_of names w ∷ s)
symbol_below names [] s known h = h
symbol_below names (b ∷ w) s known h = below_by names b w s (is_ascii_digit b) (is_word_byte b) known h

symbols_at : (names : List (List ℕ)) (text : List ℕ) (t : Span) (ts : List Span) (b : Bool)
    → is_name (bytes_at text t) && is_none (number_of names (bytes_at text t)) ≡ b
    → (if b then Some t.start else first_unknown names text ts) ≡ None
    → (first_unknown names text ts ≡ None → Below (length names) (map (λ u. symbol_of names (bytes_at text u)) ts))
    → Below (length names) (map (λ u. symbol_of names (bytes_at text u)) (t ∷ ts))
symbols_at names text t ts true e known h = absurd cc
symbols_at names text t ts false e known h = symbol_below names (bytes_at text t) _ e (h known)

symbols_below : (names : List (List ℕ)) (text : List ℕ) (ts : List Span) → first_unknown names text ts ≡ None
    → Below (length names) (map (λ t. symbol_of names (bytes_at text t)) ts)
symbols_below names text [] known = tt
symbols_below names text (t ∷ ts) known =
    symbols_at names text t ts (is_name (bytes_at text t) && is_none (number_of names (bytes_at text t))) refl known
    (symbols_below names text ts)

-- the numbers in a text's tree are those of names in the list
pub text_bound : (names : List (List ℕ)) (text : List ℕ) (f : Node) → FunctionText names text f → name_bound f ≤ length names
text_bound names text f t = (bounded t.tree (length names) (symbols_below names text (spans text) t.known)).0
