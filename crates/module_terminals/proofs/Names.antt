-- The names of a condition are those below a bound that stand in its text.
use Rattle.std.proofs.Common.{◌≡◌, ℕ, zero, suc, ◌+◌, ◌-◌, ◌<◌, ◌≤◌, ◌==◌, Bool, true, false, ◌||◌, cond, List, [], ◌∷◌, ◌++◌}
use Rattle.std.proofs.Common.{length, filter, slice_index, Contains, IsTrue, ◌↔◌, ◌⊎◌, inl, inr, refl, sym, ◌∙◌, ap, subst, arith}
use Rattle.std.proofs.Common.{eq-eqb, append_assoc, append-nil}
use Rattle.std.specs.List.{range_with_len}
use Rattle.std.specs.List.Sorted.{IsStrictlyIncreasing}
use Rattle.std.proofs.lemmas.Bool.{cases_lt, ne_eqb}
use Rattle.std.proofs.lemmas.List.{length-append}
use Rattle.std.proofs.lemmas.List.Elements.{filter-append}
use Rattle.bool_functions.specs.declared.tree.Node.{Node}
use Rattle.bool_functions.specs.Tree.{Has, name_bound}
use Rattle.bool_functions.specs.Support.{support_of}
use Rattle.bool_functions.proofs.Elements.{contains_by_test, contains_cases, contains_here, contains_later}
use Rattle.bool_functions.proofs.Supports.{support_ascends, support_has}
use Rattle.bool_functions.proofs.Bounds.{has_below}
use Rattle.cell_machine.specs.Names.{has}
use Rattle.cell_machine.specs.Supports.{AllAbove, Ascending}

above-trans : (x y : ℕ) (ys : List ℕ) → x < y → AllAbove y ys → AllAbove x ys
above-trans x y [] l h = tt
above-trans x y (z ∷ zs) l h = (omega (arith, l, h.0), above-trans x y zs l h.1)

tail-rises : (x : ℕ) (xs : List ℕ) → IsStrictlyIncreasing (x ∷ xs) → IsStrictlyIncreasing xs
tail-rises x xs h k l =
    let next : suc k + 1 ≡ suc (k + 1) = omega arith in
    subst (λ j. slice_index xs k < slice_index (x ∷ xs) j) next (h (suc k) (omega (arith, l)))

rising : (xs : List ℕ) → IsStrictlyIncreasing xs → Ascending xs
rising [] h = tt
rising (x ∷ []) h = (tt, tt)
rising (x ∷ y ∷ ys) h =
    let rest = rising (y ∷ ys) (tail-rises x (y ∷ ys) h) in
    let first : x < y = h zero (omega arith) in
    ((first, above-trans x y ys first rest.0), rest)

-- a number below all of a list is not in it
not-there : (a : ℕ) (xs : List ℕ) → AllAbove a xs → has xs a ≡ false
not-there a [] h = refl
not-there a (x ∷ xs) h =
    let apart : (x == a) ≡ false = ne_eqb x a (λ e. omega (arith, e, h.0)) in
    λ i. apart i || not-there a xs h.1 i

-- what is filtered of numbers above one that is put in
filter-above :
    (x : ℕ) (xs : List ℕ) (a n : ℕ) → x < a → filter (has (x ∷ xs)) (range_with_len a n) ≡ filter (has xs) (range_with_len a n)
filter-above x xs a zero l = refl
filter-above x xs a (suc n) l =
    let apart : (x == a) ≡ false = ne_eqb x a (λ e. omega (arith, e, l)) in
    λ i. cond (apart i || has xs a) (a ∷ filter-above x xs (a + 1) n (omega (arith, l)) i)
    (filter-above x xs (a + 1) n (omega (arith, l)) i)

-- the entries of a list that a number is below
above-has : (a : ℕ) (xs : List ℕ) (y : ℕ) → AllAbove a xs → Contains xs y → a + 1 ≤ y
above-has a [] y h c = absurd (omega (arith, c.1))
above-has a (x ∷ xs) y h c =
    elim (contains_cases x xs y c) [
      | inl same ↦ omega (arith, h.0, same)
      | inr later ↦ above-has a xs y h.1 later
    ]

-- an ascending list among the numbers from a on
here-or-later :
    (x : ℕ) (xs : List ℕ) (a n : ℕ) (rest : List ℕ) → (a < x) ⊎ (x ≤ a) → a ≤ x → AllAbove x xs
    → (a < x → filter (has (x ∷ xs)) (range_with_len (a + 1) n) ≡ x ∷ xs)
    → (x ≡ a → filter (has xs) (range_with_len (a + 1) n) ≡ xs)
    → filter (has (x ∷ xs)) (range_with_len a (suc n)) ≡ x ∷ xs
here-or-later x xs a n rest (inl below) least up later here =
    let apart : has (x ∷ xs) a ≡ false = not-there a (x ∷ xs) (below, above-trans a x xs below up) in
    ap (λ b. cond b (a ∷ filter (has (x ∷ xs)) (range_with_len (a + 1) n)) (filter (has (x ∷ xs)) (range_with_len (a + 1) n)))
    apart
    ∙ later below
here-or-later x xs a n rest (inr most) least up later here =
    let is : x ≡ a = omega (arith, most, least) in
    let there : has (x ∷ xs) a ≡ true = ap (λ b. b || has xs a) (eq-eqb x a is) in
    let others : filter (has (x ∷ xs)) (range_with_len (a + 1) n) ≡ xs = filter-above x xs (a + 1) n (omega (arith, is)) ∙ here is
    in
    ap (λ b. cond b (a ∷ filter (has (x ∷ xs)) (range_with_len (a + 1) n)) (filter (has (x ∷ xs)) (range_with_len (a + 1) n)))
    there
    ∙ (λ i. sym is i ∷ others i)

among-range :
    (xs : List ℕ) (a n : ℕ)
    → Ascending xs → ((y : ℕ) → Contains xs y → a ≤ y) → ((y : ℕ) → Contains xs y → y < a + n)
    → filter (has xs) (range_with_len a n) ≡ xs
among-range [] a zero up low high = refl
among-range (x ∷ xs) a zero up low high =
    absurd (omega (arith, low x (contains_here x xs), high x (contains_here x xs)))
among-range [] a (suc n) up low high =
    among-range [] (a + 1) n up (λ y c. absurd (omega (arith, c.1))) (λ y c. absurd (omega (arith, c.1)))
among-range (x ∷ xs) a (suc n) up low high =
    here-or-later x xs a n [] (cases_lt a x) (low x (contains_here x xs)) up.0
    (λ below. among-range (x ∷ xs) (a + 1) n up
    (λ y c. above-has a (x ∷ xs) y (below, above-trans a x xs below up.0) c)
    (λ y c. omega (arith, high y c)))
    (λ is. among-range xs (a + 1) n up.1
    (λ y c. omega (arith, above-has x xs y up.0 c, is))
    (λ y c. omega (arith, high y (contains_later x xs y c))))

-- The names of a condition among the numbers below a bound that is above them all.
pub names-among :
    (f : Node) (n : ℕ) → name_bound f ≤ n → filter (has (support_of f)) (range_with_len 0 n) ≡ support_of f
names-among f n bound =
    among-range (support_of f) 0 n (rising (support_of f) (support_ascends f)) (λ y c. omega arith)
    (λ y c. let below : y < name_bound f = has_below f y ((support_has f y).0 c) in omega (arith, below, bound))

-- the test of a name is whether it is one of the support
pub name-test : (f : Node) (i : ℕ) (b : Bool) → (IsTrue b ↔ Has f i) → b ≡ has (support_of f) i
name-test f i b h = by b (has (support_of f) i)
    (λ t. (contains_by_test (support_of f) i).1 ((support_has f i).1 (h.0 t)))
    (λ t. h.1 ((support_has f i).0 ((contains_by_test (support_of f) i).0 t)))
  where
    by : (b c : Bool) → (IsTrue b → IsTrue c) → (IsTrue c → IsTrue b) → b ≡ c
    by true c f g = sym (f refl)
    by false true f g = g refl
    by false false f g = refl

-- one more number gone through
range-turn : (i n : ℕ) → i < n → range_with_len i (n - i) ≡ i ∷ range_with_len (i + 1) (n - (i + 1))
range-turn i n h = let less : n - i ≡ suc (n - (i + 1)) = omega (arith, h) in ap (range_with_len i) less

pub name-more :
    (p : ℕ → Bool) (i n : ℕ) (names next whole : List ℕ) → i < n → next ≡ names ++ filter p (i ∷ [])
    → names ++ filter p (range_with_len i (n - i)) ≡ whole
    → next ++ filter p (range_with_len (i + 1) (n - (i + 1))) ≡ whole
name-more p i n names next whole h is e =
    let rest = range_with_len (i + 1) (n - (i + 1)) in
    ap (λ ns. ns ++ filter p rest) is
    ∙ append_assoc names (filter p (i ∷ [])) (filter p rest)
    ∙ ap (λ ns. names ++ ns) (sym (filter-append p (i ∷ []) rest))
    ∙ ap (λ ks. names ++ filter p ks) (sym (range-turn i n h)) ∙ e

-- there is room for one that passes
pub name-room :
    (p : ℕ → Bool) (i n most : ℕ) (names whole : List ℕ) → i < n → length whole ≤ most
    → names ++ filter p (range_with_len i (n - i)) ≡ whole → p i ≡ true → length names < most
name-room p i n most names whole h few e is =
    let rest = filter p (range_with_len (i + 1) (n - (i + 1))) in
    let all : names ++ i ∷ rest ≡ whole
    = ap (λ b. names ++ cond b (i ∷ rest) rest) (sym is) ∙ ap (λ ks. names ++ filter p ks) (sym (range-turn i n h)) ∙ e in
    omega (arith, few, ap length (sym all), length-append names (i ∷ rest))

pub names-end :
    (p : ℕ → Bool) (i n : ℕ) (names whole : List ℕ) → n ≤ i → names ++ filter p (range_with_len i (n - i)) ≡ whole → names ≡ whole
names-end p i n names whole h e =
    let none : n - i ≡ 0 = omega (arith, h) in
    sym (append-nil names) ∙ ap (λ k. names ++ filter p (range_with_len i k)) (sym none) ∙ e
