-- Merging one more arc.
use Rattle.std.proofs.Common.{◌≡◌, ℕ, Bool, true, false, ◌&&◌, ◌||◌, ◌==◌, List, [], ◌∷◌, ◌++◌, map, refl, sym, ap, ◌∙◌, arith}
use Rattle.std.proofs.Common.{append-nil}
use Rattle.std.specs.Prelude.{Option, Some, None, max, filter, if◌then◌else◌}
use Rattle.std.specs.List.{list_any}
use Rattle.std.proofs.lemmas.Bool.{and_parts, eqb-true, cases_Bool, or_right as or-true, or_left as true-or}
use Rattle.std.proofs.lemmas.Bool.Decides.{nat_tests}
use Rattle.std.proofs.lemmas.List.{map-append}
use Rattle.std.proofs.lemmas.List.Elements.{filter-append}
use Rattle.std.proofs.lemmas.List.Folds.{list_any-append}
use Rattle.std.proofs.Math.Logic.{inl, inr}
use Rattle.bool_functions.specs.declared.tree.Node.{Node}
use Rattle.cell_machine.specs.declared.arcs.Arc.{Arc}
use Rattle.timing_arcs.specs.Tables.{greatest}
use Rattle.timing_arcs.specs.Merging.{same_condition, same_path, Placed, firsts_after, firsts, merged_into, merged, merged_at}
use Rattle.timing_arcs.specs.Adding.{joined_with}
use Rattle.bool_functions.proofs.SameTreeLemmas.{same_tree-equal, same_tree-refl}
use Rattle.timing_arcs.proofs.SumLemmas.{greatest-append}

-- some arcs, with a new one
abbrev pub with_arc : List Arc → Arc → List Arc
with_arc arcs arc =
    if list_any (same_path arc) arcs then map (joined_with arc) arcs else map (joined_with arc) arcs ++ arc ∷ []

-- equal conditions are equal
condition-equal : (a b : Option Node) → same_condition a b ≡ true → a ≡ b
condition-equal None None h = refl
condition-equal None (Some g) h = absurd cc
condition-equal (Some f) None h = absurd cc
condition-equal (Some f) (Some g) h = ap Some (same_tree-equal f g h)

condition-refl : (a : Option Node) → same_condition a a ≡ true
condition-refl None = refl
condition-refl (Some f) = same_tree-refl f

number-refl : (n : ℕ) → (n == n) ≡ true
number-refl n = grind (arith, nat_tests)

all_true : (a b c : Bool) → a ≡ true → b ≡ true → c ≡ true → (a && (b && c)) ≡ true
all_true a b c h j k = rw (h, j, k)

pub path-refl : (a : Arc) → same_path a a ≡ true
path-refl a = all_true _ _ _ (number-refl a.from) (number-refl a.to) (condition-refl a.condition)

-- arcs with the same ends and the same condition are of one path
pub path-equal : (a b : Arc) → a.from ≡ b.from → a.to ≡ b.to → a.condition ≡ b.condition → same_path a b ≡ true
path-equal a b from to condition =
    ap (λ n. n == b.from && (a.to == b.to && same_condition a.condition b.condition)) from
    ∙ ap (λ n. b.from == b.from && (n == b.to && same_condition a.condition b.condition)) to
    ∙ ap (λ o. b.from == b.from && (b.to == b.to && same_condition o b.condition)) condition
    ∙ path-refl b

-- arcs of one path are of one path with the same arcs
pub path-like : (a b c : Arc) → same_path a b ≡ true → same_path a c ≡ same_path b c
path-like a b c h =
    let (from, rest) = and_parts (a.from == b.from) (a.to == b.to && same_condition a.condition b.condition) h in
    let (to, condition) = and_parts (a.to == b.to) (same_condition a.condition b.condition) rest in
    let from_is : a.from ≡ b.from = eqb-true a.from b.from from in
    let to_is : a.to ≡ b.to = eqb-true a.to b.to to in
    let condition_is : a.condition ≡ b.condition = condition-equal a.condition b.condition condition in
    ap (λ n. n == c.from && (a.to == c.to && same_condition a.condition c.condition)) from_is
    ∙ ap (λ n. b.from == c.from && (n == c.to && same_condition a.condition c.condition)) to_is
    ∙ ap (λ o. b.from == c.from && (b.to == c.to && same_condition o c.condition)) condition_is

pub path-back : (a b : Arc) → same_path a b ≡ true → same_path b a ≡ true
path-back a b h = sym (path-like a b a h) ∙ path-refl a

any-like : (a b : Arc) (cs : List Arc) → same_path a b ≡ true → list_any (same_path a) cs ≡ list_any (same_path b) cs
any-like a b [] h = refl
any-like a b (c ∷ cs) h = ap (λ t. t || list_any (same_path a) cs) (path-like a b c h)
    ∙ ap (λ t. same_path b c || t) (any-like a b cs h)

abbrev arc_of : Placed → Arc
arc_of p = p.arc

-- whether an arc has the path of one of those that are kept, after these
abbrev kept_has : Arc → List Arc → List Placed → Bool
kept_has q earlier made = list_any (same_path q) (earlier ++ map arc_of (firsts_after earlier made))

or-move : (a b c : Bool) → (a || (b || c)) ≡ (b || (a || c))
or-move true true c = refl
or-move true false c = refl
or-move false true c = refl
or-move false false c = refl

any-move : (q x : Arc) (xs ys : List Arc) → list_any (same_path q) ((x ∷ xs) ++ ys) ≡ list_any (same_path q) (xs ++ x ∷ ys)
any-move q x xs ys =
    ap (λ t. same_path q x || t) (list_any-append (same_path q) xs ys)
    ∙ or-move (same_path q x) (list_any (same_path q) xs) (list_any (same_path q) ys)
    ∙ sym (list_any-append (same_path q) xs (x ∷ ys))

-- with one more, it is kept where no kept one has its path
abbrev if_new : Bool → Placed → List Placed
if_new is_there p = if is_there then [] else p ∷ []

firsts_after-append : (earlier : List Arc) (made : List Placed) (q : Placed) →
    firsts_after earlier (made ++ q ∷ []) ≡ firsts_after earlier made ++ if_new (kept_has q.arc earlier made) q
firsts_after-append earlier [] q = let e : earlier ++ [] ≡ earlier = append-nil earlier in rw e
firsts_after-append earlier (p ∷ made) q =
    elim (cases_Bool (list_any (same_path p.arc) earlier)) [
      | inl there ↦ rw there (firsts_after-append earlier made q)
      | inr new ↦
          rw new
          (ap (λ (ps : List Placed). p ∷ ps)
          (firsts_after-append (p.arc ∷ earlier) made q
          ∙ ap (λ b. firsts_after (p.arc ∷ earlier) made ++ if_new b q)
          (any-move q.arc p.arc earlier (map arc_of (firsts_after (p.arc ∷ earlier) made)))))
    ]

false-or : (a b : Bool) → a ≡ false → (a || b) ≡ true → b ≡ true
false-or true b h e = absurd cc
false-or false b h e = e

-- an arc has the path of a kept one, where it has that of one at all
covered : (earlier : List Arc) (made : List Placed) (q : Arc) → list_any (λ (p : Placed). same_path p.arc q) made ≡ true
    → kept_has q earlier made ≡ true
covered earlier [] q h = absurd cc
covered earlier (p ∷ made) q h =
    elim (cases_Bool (same_path p.arc q)) [
      | inl same ↦ elim (cases_Bool (list_any (same_path p.arc) earlier)) [
        | inl there ↦
            rw there
            (list_any-append (same_path q) earlier (map arc_of (firsts_after earlier made))
            ∙ true-or _ _ (sym (any-like p.arc q earlier same) ∙ there))
        | inr new ↦
            rw new
            (list_any-append (same_path q) earlier (p.arc ∷ map arc_of (firsts_after (p.arc ∷ earlier) made))
            ∙ or-true _ _ (true-or _ _ (path-back p.arc q same)))
      ]
      | inr other ↦ elim (cases_Bool (list_any (same_path p.arc) earlier)) [
        | inl there ↦ rw there (covered earlier made q (false-or _ _ other h))
        | inr new ↦
            rw new
            (sym (any-move q p.arc earlier (map arc_of (firsts_after (p.arc ∷ earlier) made)))
            ∙ covered (p.arc ∷ earlier) made q (false-or _ _ other h))
      ]
    ]

none-filtered : {A : Type 0} (t : A → Bool) (xs : List A) → list_any t xs ≡ false → filter t xs ≡ []
none-filtered t [] h = refl
none-filtered t (x ∷ xs) h =
    elim (cases_Bool (t x)) [
      | inl is ↦ let e : (t x || list_any t xs) ≡ true = true-or _ _ is in absurd cc
      | inr isnt ↦ rw isnt (none-filtered t xs (rest_false (t x) (list_any t xs) isnt h))
    ]
  where
    rest_false : (a b : Bool) → a ≡ false → (a || b) ≡ false → b ≡ false
    rest_false true b h e = absurd cc
    rest_false false b h e = e

abbrev rise_of : Placed → ℕ
rise_of p = p.arc.rise

abbrev fall_of : Placed → ℕ
fall_of p = p.arc.fall

greatest-map-one : (f : Placed → ℕ) (ps : List Placed) (q : Placed)
    → greatest (map f (ps ++ q ∷ [])) ≡ max (greatest (map f ps)) (f q)
greatest-map-one f ps q =
    ap greatest (map-append f ps (q ∷ [])) ∙ greatest-append (map f ps) (f q ∷ []) ∙ omega arith

-- one more arc in what arcs of one path are merged into
merged_into-append : (made : List Placed) (q : Placed) (a : Arc)
    → merged_into (made ++ q ∷ []) a ≡ joined_with q.arc (merged_into made a)
merged_into-append made q a =
    let test : Placed → Bool = λ (p : Placed). same_path p.arc a in
    elim (cases_Bool (same_path q.arc a)) [
      | inl same ↦
          let whole : filter test (made ++ q ∷ []) ≡ filter test made ++ q ∷ [] = filter-append test made (q ∷ []) ∙ rw same refl
          in
          rw (whole, same) (λ i. record a {
            rise = greatest-map-one rise_of (filter test made) q i;
            fall =
                greatest-map-one fall_of (filter test made) q i;
          })
      | inr other ↦
          let whole : filter test (made ++ q ∷ []) ≡ filter test made = filter-append test made (q ∷ [])
          ∙ rw other (append-nil (filter test made)) in
          rw (whole, other) refl
    ]

-- an arc of its own stays as it is
merged_into-new : (made : List Placed) (q : Placed) → kept_has q.arc [] made ≡ false → merged_into (made ++ q ∷ []) q.arc ≡ q.arc
merged_into-new made q h =
    let test : Placed → Bool = λ (p : Placed). same_path p.arc q.arc in
    let none : list_any test made ≡ false = elim (cases_Bool (list_any test made)) [
      | inl found ↦ let e : kept_has q.arc [] made ≡ true = covered [] made q.arc found in absurd cc
      | inr none ↦ none
    ] in
    let whole : filter test (made ++ q ∷ []) ≡ q ∷ [] =
    filter-append test made (q ∷ []) ∙ ap (λ (ps : List Placed). ps ++ filter test (q ∷ [])) (none-filtered test made none)
    ∙ rw (path-refl q.arc) refl in
    let rise : max q.arc.rise 0 ≡ q.arc.rise = omega arith in
    let fall : max q.arc.fall 0 ≡ q.arc.fall = omega arith in
    rw whole (λ i. record (q.arc) { rise = rise i; fall = fall i })

map-merged : (made : List Placed) (q : Placed) (ps : List Placed) →
    map (λ (p : Placed). merged_into (made ++ q ∷ []) p.arc) ps ≡ map (joined_with q.arc)
    (map (λ (p : Placed). merged_into made p.arc) ps)
map-merged made q [] = refl
map-merged made q (p ∷ ps) =
    ap (λ (a : Arc). a ∷ map (λ (p : Placed). merged_into (made ++ q ∷ []) p.arc) ps) (merged_into-append made q p.arc)
    ∙ ap (λ (arcs : List Arc). joined_with q.arc (merged_into made p.arc) ∷ arcs) (map-merged made q ps)

any-merged : (made : List Placed) (q : Arc) (ps : List Placed)
    → list_any (same_path q) (map (λ (p : Placed). merged_into made p.arc) ps) ≡ list_any (same_path q) (map arc_of ps)
any-merged made q [] = refl
any-merged made q (p ∷ ps) = ap (λ b. same_path q p.arc || b) (any-merged made q ps)

-- the arcs that are left with one more
pub merged-append : (made : List Placed) (q : Placed) → with_arc (merged made) q.arc ≡ merged (made ++ q ∷ [])
merged-append made q =
    elim (cases_Bool (kept_has q.arc [] made)) [
      | inl there ↦
          let left : firsts (made ++ q ∷ []) ≡ firsts made = firsts_after-append [] made q ∙ rw there (append-nil (firsts made))
          in
          let found : list_any (same_path q.arc) (merged made) ≡ true = any-merged made q.arc (firsts made) ∙ there in
          rw (found, left) (sym (map-merged made q (firsts made)))
      | inr new ↦
          let left : firsts (made ++ q ∷ []) ≡ firsts made ++ q ∷ [] = firsts_after-append [] made q ∙ rw new refl in
          let found : list_any (same_path q.arc) (merged made) ≡ false = any-merged made q.arc (firsts made) ∙ new in
          rw (found, left)
          (sym (map-append (λ (p : Placed). merged_into (made ++ q ∷ []) p.arc) (firsts made) (q ∷ [])
          ∙ ap (λ (arcs : List Arc). arcs ++ merged_into (made ++ q ∷ []) q.arc ∷ []) (map-merged made q (firsts made))
          ∙ ap (λ (a : Arc). map (joined_with q.arc) (merged made) ++ a ∷ []) (merged_into-new made q new)))
    ]

-- and the offsets of the groups that first made them
pub merged_at-append : (made : List Placed) (q : Placed) →
    (if list_any (same_path q.arc) (merged made) then merged_at made else merged_at made ++ q.at ∷ []) ≡ merged_at
    (made ++ q ∷ [])
merged_at-append made q =
    elim (cases_Bool (kept_has q.arc [] made)) [
      | inl there ↦
          let left : firsts (made ++ q ∷ []) ≡ firsts made = firsts_after-append [] made q ∙ rw there (append-nil (firsts made))
          in
          let found : list_any (same_path q.arc) (merged made) ≡ true = any-merged made q.arc (firsts made) ∙ there in
          rw (found, left) refl
      | inr new ↦
          let left : firsts (made ++ q ∷ []) ≡ firsts made ++ q ∷ [] = firsts_after-append [] made q ∙ rw new refl in
          let found : list_any (same_path q.arc) (merged made) ≡ false = any-merged made q.arc (firsts made) ∙ new in
          rw (found, left) (sym (map-append (λ (p : Placed). p.at) (firsts made) (q ∷ [])))
    ]
