-- Points that have 1 wherever another one has, and going through points by halves.
use Rattle.std.proofs.Common.{◌≡◌, ◌≢◌, ℕ, zero, suc, ◌+◌, ◌*◌, ◌^◌, ◌<◌, ◌≤◌, ◌-◌, bit_and, Option, Some, None, refl, sym, ap}
use Rattle.std.proofs.Common.{subst, ◌∙◌, inl, inr, arith}
use Rattle.std.specs.List.{range_with_len}
use Rattle.std.specs.Int.{bit_at}
use Rattle.std.proofs.lemmas.Bool.{cases_eq, cases_lt}
use Rattle.std.proofs.lemmas.Nat.{pow_pos, pow_below}
use Rattle.std.proofs.lemmas.Nat.Bits.{bit_at_and, bit_at-zero, bit_at_cat_low, bit_at_cat_high, same_from_bits}
use Rattle.scan_cells.specs.Comparison.{or_else, first_some}
use Rattle.scan_cells.proofs.Sides.{none_first, first_none}
use Rattle.scan_cells.proofs.MaskLemmas.{masks_swap}

-- a point with 1 wherever another one has is outside of each mask that the other one is outside of
pub outside_later : (point later mask : ℕ) → bit_and later point ≡ point → bit_and point mask ≢ point → bit_and later mask ≢ later
outside_later point later mask has outside e =
    outside (ap (λ p. bit_and p mask) (sym has) ∙ (masks_swap later point mask ∙ (ap (λ p. bit_and p point) e ∙ has)))

-- a point with 0 at the first k places, and one that differs from it there alone
has_first : (c k j : ℕ) → j < 2 ^ k → bit_and (c * 2 ^ k + j) (c * 2 ^ k) ≡ c * 2 ^ k
has_first c k j small =
    let plain : c * 2 ^ k ≡ c * 2 ^ k + 0 = omega arith in
    same_from_bits (bit_and (c * 2 ^ k + j) (c * 2 ^ k)) (c * 2 ^ k) (λ i.
    let both = bit_at_and (c * 2 ^ k + j) (c * 2 ^ k) i in
    elim (cases_lt i k) [
      | inl low ↦
          let none : bit_at (c * 2 ^ k) i ≡ 0 = ap (λ p. bit_at p i) plain ∙ (bit_at_cat_low c k 0 i low ∙ bit_at-zero i) in
          omega (arith, both, none)
      | inr high ↦
          let here : bit_at (c * 2 ^ k) i ≡ bit_at c (i - k)
          = ap (λ p. bit_at p i) plain ∙ bit_at_cat_high c k 0 i (pow_pos k) high in
          let more = bit_at_cat_high c k j i small high in
          omega (arith, both, here, more)
    ])

-- none at the n points from one on, where none before each of them says that there is none at it
none_on :
    {B : Type 0} (f : ℕ → Option B) (point n : ℕ) → ((p : ℕ) → p < point → f p ≡ None)
    → ((q : ℕ) → point ≤ q → q < point + n → ((p : ℕ) → p < q → f p ≡ None) → f q ≡ None) → (i : ℕ) → i < point + n → f i ≡ None
none_on f point zero before each i h = before i (omega (arith, h))
none_on f point (suc n) before each i h =
    let rest = none_on f point n before (λ q l m. each q l (omega (arith, m))) in
    elim (cases_eq i (point + n)) [
      | inl e ↦ subst (λ q. f q ≡ None) (sym e) (each (point + n) (omega arith) (omega arith) rest)
      | inr ne ↦ rest i (omega (arith, h, ne))
    ]

-- none at a point with 0 at the first k places, nor at those that differ from it there alone
pub none_with :
    {B : Type 0} (f : ℕ → Option B) (point c k : ℕ) → point ≡ c * 2 ^ k → ((p : ℕ) → p < point → f p ≡ None)
    → ((later : ℕ) → bit_and later point ≡ point → ((p : ℕ) → p < later → f p ≡ None) → f later ≡ None)
    → first_some f (range_with_len point (2 ^ k)) ≡ None
none_with f point c k whole before each =
    let all = none_on f point (2 ^ k) before (λ q l m none.
    let j = q - point in
    let is : c * 2 ^ k + j ≡ q = omega (arith, whole, l) in
    let has = has_first c k j (omega (arith, l, m)) in
    each q (subst (λ p. bit_and q p ≡ p) (sym whole) (subst (λ p. bit_and p (c * 2 ^ k) ≡ c * 2 ^ k) is has)) none) in
    none_first f point (2 ^ k) (λ i l m. all i m)

or_nothing : {A : Type 0} (a : Option A) → or_else a None ≡ a
or_nothing None = refl
or_nothing (Some x) = refl

or_assoc : {A : Type 0} (a b c : Option A) → or_else a (or_else b c) ≡ or_else (or_else a b) c
or_assoc None b c = refl
or_assoc (Some x) b c = refl

-- a single point
pub first_alone : {B : Type 0} (f : ℕ → Option B) (point k : ℕ) → k ≡ 0 → first_some f (range_with_len point (2 ^ k)) ≡ f point
first_alone f point k e = ap (λ n. first_some f (range_with_len point (2 ^ n))) e ∙ or_nothing (f point)

-- numbers in two parts
first_parts :
    {B : Type 0} (f : ℕ → Option B) (k n m : ℕ)
    → first_some f (range_with_len k (n + m))
    ≡ or_else (first_some f (range_with_len k n)) (first_some f (range_with_len (k + n) m))
first_parts f k zero m =
    let here : k ≡ k + 0 = omega arith in
    let count : 0 + m ≡ m = omega arith in
    λ i. first_some f (range_with_len (here i) (count i))
first_parts f k (suc n) m =
    let count : suc n + m ≡ suc (n + m) = omega arith in
    let start : (k + 1) + n ≡ k + suc n = omega arith in
    ap (λ c. first_some f (range_with_len k c)) count
    ∙ (ap (or_else (f k)) (first_parts f (k + 1) n m)
    ∙ (or_assoc (f k) (first_some f (range_with_len (k + 1) n)) (first_some f (range_with_len ((k + 1) + n) m))
    ∙ ap (λ i. or_else (or_else (f k) (first_some f (range_with_len (k + 1) n))) (first_some f (range_with_len i m))) start))

double : (k rest : ℕ) → k ≡ suc rest → 2 ^ k ≡ 2 ^ rest + 2 ^ rest
double k rest e = ap (λ n. 2 ^ n) e ∙ omega arith

-- the points in two halves
pub first_halves :
    {B : Type 0} (f : ℕ → Option B) (point k rest : ℕ) → k ≡ suc rest
    → first_some f (range_with_len point (2 ^ k))
    ≡ or_else (first_some f (range_with_len point (2 ^ rest))) (first_some f (range_with_len (point + 2 ^ rest) (2 ^ rest)))
first_halves f point k rest e =
    ap (λ n. first_some f (range_with_len point n)) (double k rest e) ∙ first_parts f point (2 ^ rest) (2 ^ rest)

-- where both halves begin
pub half_whole : (point k rest c : ℕ) → k ≡ suc rest → point ≡ c * 2 ^ k → point ≡ (c + c) * 2 ^ rest
half_whole point k rest c e whole =
    let two = double k rest e in
    whole ∙ (ap (λ n. c * n) two ∙ omega arith)

pub later_whole : (point k rest c : ℕ) → k ≡ suc rest → point ≡ c * 2 ^ k → point + 2 ^ rest ≡ (c + c + 1) * 2 ^ rest
later_whole point k rest c e whole =
    let half = half_whole point k rest c e whole in
    ap (λ p. p + 2 ^ rest) half ∙ omega arith

pub half_few : (point k rest n : ℕ) → k ≡ suc rest → point + 2 ^ k ≤ n
    → (point + 2 ^ rest ≤ n) × (point + 2 ^ rest + 2 ^ rest ≤ n)
half_few point k rest n e few =
    let two = double k rest e in
    (omega (arith, two, few), omega (arith, two, few))

-- none before the second half
pub none_behind :
    {B : Type 0} (f : ℕ → Option B) (point n : ℕ) → ((p : ℕ) → p < point → f p ≡ None)
    → first_some f (range_with_len point n) ≡ None → (p : ℕ) → p < point + n → f p ≡ None
none_behind f point n before none p h =
    elim (cases_lt p point) [
      | inl l ↦ before p l
      | inr l ↦ first_none f point n none p l h
    ]

pub most_points : (places most : ℕ) → places ≤ most → 2 ^ places ≤ 2 ^ most
most_points places most h =
    elim (cases_eq places most) [
      | inl e ↦ subst (λ n. 2 ^ n ≤ 2 ^ most) (sym e) (omega arith)
      | inr ne ↦ let less = pow_below places most (omega (arith, h, ne)) in omega (arith, less)
    ]

pub few_points : (places : ℕ) → places ≤ 20 → 0 + 2 ^ places ≤ 2 ^ 20
few_points places h = let most = most_points places 20 h in omega (arith, most)
