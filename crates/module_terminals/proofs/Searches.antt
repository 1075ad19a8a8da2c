-- Where a search of a list that is put together finds nothing.
use Rattle.std.proofs.Common.{◌≡◌, ℕ, zero, suc, ◌+◌, ◌<◌, ◌≤◌, Bool, true, false, cond, List, [], ◌∷◌, ◌++◌, map, find, flat_map}
use Rattle.std.proofs.Common.{Option, None, Some, refl, sym, ◌∙◌, ap, subst, arith, ◌⊎◌, inl, inr, ◌-◌}
use Rattle.std.specs.List.{range_with_len}
use Rattle.std.specs.Option.{option_or}
use Rattle.std.proofs.lemmas.Bool.{cases_lt}
use Rattle.std.proofs.lemmas.List.Folds.{find-append}
use Rattle.trit_cubes.specs.declared.trits.Trit.{Trit}
use Rattle.trit_cubes.specs.declared.trits.Trit.TheVariants.{Zero, One, Unknown}
use Rattle.trit_cubes.proofs.ListLemmas.{Among}

-- none of two, and none of both
or-none : {A : Type 0} (a b : Option A) → option_or a b ≡ None → (a ≡ None) × (b ≡ None)
or-none None b h = (refl, h)
or-none (Some x) b h = absurd cc

none-or : {A : Type 0} (a b : Option A) → a ≡ None → b ≡ None → option_or a b ≡ None
none-or a b h k = ap (λ o. option_or o b) h ∙ k

-- none in an entry and the rest
cons-by : {X : Type 0} (b : Bool) (x : X) (o : Option X) → cond b (Some x) o ≡ None → (b ≡ false) × (o ≡ None)
cons-by true x o h = absurd cc
cons-by false x o h = (refl, h)

pub cons-none : {X : Type 0} (p : X → Bool) (x : X) (xs : List X) → find p (x ∷ xs) ≡ None → (p x ≡ false) × (find p xs ≡ None)
cons-none p x xs h = cons-by (p x) x (find p xs) h

pub none-cons : {X : Type 0} (p : X → Bool) (x : X) (xs : List X) → p x ≡ false → find p xs ≡ None → find p (x ∷ xs) ≡ None
none-cons p x xs h k = ap (λ b. cond b (Some x) (find p xs)) h ∙ k

-- none in two lists
pub append-none : {X : Type 0} (p : X → Bool) (xs ys : List X) → find p (xs ++ ys) ≡ None → (find p xs ≡ None)
    × (find p ys ≡ None)
append-none p xs ys h = or-none (find p xs) (find p ys) (sym (find-append p xs ys) ∙ h)

pub none-append : {X : Type 0} (p : X → Bool) (xs ys : List X) → find p xs ≡ None → find p ys ≡ None → find p (xs ++ ys) ≡ None
none-append p xs ys h k = find-append p xs ys ∙ none-or (find p xs) (find p ys) h k

-- none in what each entry of a list gives
pub flat-none :
    {X Y : Type 0} (p : Y → Bool) (f : X → List Y) (xs : List X)
    → find p (flat_map f xs) ≡ None → (x : X) → Among x xs → find p (f x) ≡ None
flat-none p f [] h x a = absurd a
flat-none p f (y ∷ ys) h x (inl e) = subst (λ z. find p (f z) ≡ None) e (append-none p (f y) (flat_map f ys) h).0
flat-none p f (y ∷ ys) h x (inr a) = flat-none p f ys (append-none p (f y) (flat_map f ys) h).1 x a

pub none-flat :
    {X Y : Type 0} (p : Y → Bool) (f : X → List Y) (xs : List X)
    → ((x : X) → Among x xs → find p (f x) ≡ None) → find p (flat_map f xs) ≡ None
none-flat p f [] h = refl
none-flat p f (y ∷ ys) h = none-append p (f y) (flat_map f ys) (h y (inl refl)) (none-flat p f ys (λ x a. h x (inr a)))

pub map-none :
    {X Y : Type 0} (p : Y → Bool) (f : X → Y) (xs : List X) → find p (map f xs) ≡ None → (x : X) → Among x xs → p (f x) ≡ false
map-none p f [] h x a = absurd a
map-none p f (y ∷ ys) h x (inl e) = subst (λ z. p (f z) ≡ false) e (cons-none p (f y) (map f ys) h).0
map-none p f (y ∷ ys) h x (inr a) = map-none p f ys (cons-none p (f y) (map f ys) h).1 x a

pub none-map :
    {X Y : Type 0} (p : Y → Bool) (f : X → Y) (xs : List X) → ((x : X) → Among x xs → p (f x) ≡ false) → find p (map f xs) ≡ None
none-map p f [] h = refl
none-map p f (y ∷ ys) h = none-cons p (f y) (map f ys) (h y (inl refl)) (none-map p f ys (λ x a. h x (inr a)))

-- the numbers of a range
range-first : (a k : ℕ) → a ≤ k → (a ≡ k) ⊎ (a + 1 ≤ k)
range-first a k l = elim (cases_lt a k) [ inl below ↦ inr (omega (arith, below)) | inr least ↦ inl (omega (arith, least, l)) ]

in-range-by : (a n k : ℕ) → (a ≡ k) ⊎ (a + 1 ≤ k) → (a + 1 ≤ k → Among k (range_with_len (a + 1) n))
    → Among k (range_with_len a (suc n))
in-range-by a n k (inl e) rest = inl e
in-range-by a n k (inr more) rest = inr (rest more)

pub in-range : (a n k : ℕ) → a ≤ k → k < a + n → Among k (range_with_len a n)
in-range a zero k l m = absurd (omega (arith, l, m))
in-range a (suc n) k l m = in-range-by a n k (range-first a k l) (λ more. in-range (a + 1) n k more (omega (arith, m)))

pub range-in : (a n k : ℕ) → Among k (range_with_len a n) → k < a + n
range-in a zero k h = absurd h
range-in a (suc n) k (inl e) = omega (arith, e)
range-in a (suc n) k (inr h) = omega (arith, range-in (a + 1) n k h)

pub in-trits : (t : Trit) → Among t (Zero ∷ One ∷ Unknown ∷ [])
in-trits Zero = inl refl
in-trits One = inr (inl refl)
in-trits Unknown = inr (inr (inl refl))

pub in-trits-from-x : (t : Trit) → Among t (Unknown ∷ Zero ∷ One ∷ [])
in-trits-from-x Zero = inr (inl refl)
in-trits-from-x One = inr (inr (inl refl))
in-trits-from-x Unknown = inl refl

-- the numbers that are left of a range
pub one_less : (i n : ℕ) → i < n → n - i ≡ suc (n - (i + 1))
one_less i n h = omega (arith, h)

pub none_left : (i n : ℕ) → n ≤ i → n - i ≡ 0
none_left i n h = omega (arith, h)
