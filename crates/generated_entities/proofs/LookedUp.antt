-- The conditions of a generated entity are looked up in the order of their numbers.
use Rattle.std.proofs.Common.{◌≡◌, ℕ, ◌+◌, ◌<◌, Bool, true, false, ◌||◌, List, [], ◌∷◌, ◌++◌, length, map, refl, sym, ap, ◌∙◌}
use Rattle.std.proofs.Common.{subst, arith, append_assoc, append-nil, length-append, nat_eq, nat_lt, if◌then◌else◌}
use Rattle.std.specs.List.{list_any}
use Rattle.std.proofs.lemmas.Bool.{lt-ltb, ltb-true, eq-eqb}
use Rattle.bool_functions.specs.declared.tree.Node.{Node}
use Rattle.bool_functions.specs.SameTrees.{same_tree}
use Rattle.bool_functions.proofs.SameTreeLemmas.{same_tree-refl}
use Rattle.udp_tables.specs.Conditions.{added, added_all, condition_place}
use Rattle.vhdl_grammar.specs.WellFormed.{looks_up_in_order}

-- trees that are added stand behind those before them
added_by : (trees : List Node) (f : Node) (b : Bool) → list_any (same_tree f) trees ≡ b
    → added trees f ≡ (if b then trees else trees ++ f ∷ [])
added_by trees f b e = ap (λ c. if c then trees else trees ++ f ∷ []) e

added_more : (trees : List Node) (f : Node) → (more : List Node) × (added trees f ≡ trees ++ more)
added_more trees f = by (list_any (same_tree f) trees)
  where
    by : (b : Bool) → (more : List Node) × ((if b then trees else trees ++ f ∷ []) ≡ trees ++ more)
    by true = ([], sym (append-nil trees))
    by false = (f ∷ [], refl)

all_added_more : (trees fs : List Node) → (more : List Node) × (added_all trees fs ≡ trees ++ more)
all_added_more trees [] = ([], sym (append-nil trees))
all_added_more trees (f ∷ fs) =
    let first = added_more trees f in
    let rest = all_added_more (added trees f) fs in
    (first.0 ++ rest.0, rest.1 ∙ ap (λ l. l ++ rest.0) first.1 ∙ append_assoc trees first.0 rest.0)

-- where a tree stands among trees, whatever comes behind them
place_found :
    (f : Node) (trees more : List Node) → list_any (same_tree f) trees ≡ true → condition_place (trees ++ more) f < length trees
place_found f [] more h = absurd cc
place_found f (g ∷ trees) more h = by (same_tree f g) h (λ k. place_found f trees more k)
  where
    by :
        (b : Bool) → (b || list_any (same_tree f) trees) ≡ true
        → (list_any (same_tree f) trees ≡ true → condition_place (trees ++ more) f < length trees)
        → (if b then 0 else condition_place (trees ++ more) f + 1) < length (g ∷ trees)
    by true e later = omega arith
    by false e later = let rest = later e in omega (arith, rest)

place_new :
    (f : Node) (trees more : List Node) → list_any (same_tree f) trees ≡ false
    → condition_place (trees ++ f ∷ more) f ≡ length trees
place_new f [] more h = ap (λ b. if b then 0 else condition_place more f + 1) (same_tree-refl f)
place_new f (g ∷ trees) more h = by (same_tree f g) h (λ k. place_new f trees more k)
  where
    by :
        (b : Bool) → (b || list_any (same_tree f) trees) ≡ false
        → (list_any (same_tree f) trees ≡ false → condition_place (trees ++ f ∷ more) f ≡ length trees)
        → (if b then 0 else condition_place (trees ++ f ∷ more) f + 1) ≡ length (g ∷ trees)
    by true e later = absurd cc
    by false e later = let rest = later e in omega (arith, rest)

-- one more look-up
seen_again : (all seen i : ℕ) (is : List ℕ) → i < seen → looks_up_in_order all seen is ≡ true
    → looks_up_in_order all seen (i ∷ is) ≡ true
seen_again all seen i is h rest =
    ap (λ b. if b then looks_up_in_order all seen is else (if nat_eq i seen then looks_up_in_order all (seen + 1) is else false))
    (lt-ltb i seen h)
    ∙ rest

not_below : (n : ℕ) → nat_lt n n ≡ false
not_below n = by (nat_lt n n) refl
  where
    by : (b : Bool) → nat_lt n n ≡ b → b ≡ false
    by false e = refl
    by true e = absurd (let bad : n < n = ltb-true n n e in omega (arith, bad))

seen_next : (all seen i : ℕ) (is : List ℕ) → i ≡ seen → looks_up_in_order all (seen + 1) is ≡ true
    → looks_up_in_order all seen (i ∷ is) ≡ true
seen_next all seen i is e rest =
    ap (λ b. if b then looks_up_in_order all seen is else (if nat_eq i seen then looks_up_in_order all (seen + 1) is else false))
    (ap (λ n. nat_lt n seen) e ∙ not_below seen)
    ∙ ap (λ b. if b then looks_up_in_order all (seen + 1) is else false) (eq-eqb i seen e)
    ∙ rest

-- trees that are added to others are looked up in order
pub in_order :
    (final trees fs : List Node) → added_all trees fs ≡ final
    → looks_up_in_order (length final) (length trees) (map (condition_place final) fs) ≡ true
in_order final trees [] h = eq-eqb (length trees) (length final) (ap length h)
in_order final trees (f ∷ fs) h = by (list_any (same_tree f) trees) refl (λ l. in_order final l fs)
  where
    more : (more : List Node) × (final ≡ added trees f ++ more)
    more = let rest = all_added_more (added trees f) fs in (rest.0, sym h ∙ rest.1)

    by :
        (b : Bool) → list_any (same_tree f) trees ≡ b
        → ((l : List Node) → added_all l fs ≡ final
        → looks_up_in_order (length final) (length l) (map (condition_place final) fs) ≡ true)
        → looks_up_in_order (length final) (length trees) (map (condition_place final) (f ∷ fs)) ≡ true
    by true e later =
        let same : added trees f ≡ trees = added_by trees f true e in
        let whole : final ≡ trees ++ more.0 = more.1 ∙ ap (λ l. l ++ more.0) same in
        seen_again (length final) (length trees) (condition_place final f) (map (condition_place final) fs)
        (subst (λ l. condition_place l f < length trees) (sym whole) (place_found f trees more.0 e))
        (later trees (subst (λ l. added_all l fs ≡ final) same h))
    by false e later =
        let same : added trees f ≡ trees ++ f ∷ [] = added_by trees f false e in
        let whole : final ≡ trees ++ f ∷ more.0 = more.1 ∙ ap (λ l. l ++ more.0) same ∙ append_assoc trees (f ∷ []) more.0 in
        let long : length (trees ++ f ∷ []) ≡ length trees + 1 = length-append trees (f ∷ []) in
        seen_next (length final) (length trees) (condition_place final f) (map (condition_place final) fs)
        (ap (λ l. condition_place l f) whole ∙ place_new f trees more.0 e)
        (subst (λ n. looks_up_in_order (length final) n (map (condition_place final) fs) ≡ true) long
        (later (trees ++ f ∷ []) (subst (λ l. added_all l fs ≡ final) same h)))
