-- The bits of words of values, and blocks of points.
use Rattle.std.proofs.Common.{◌≡◌, ℕ, zero, suc, ◌+◌, ◌-◌, ◌*◌, ◌/◌, ◌%◌, ◌^◌, ◌<◌, ◌≤◌, min, bit_and, bit_or, bit_xor, Bool}
use Rattle.std.proofs.Common.{true, false, not, ◌&&◌, ◌||◌, ◌==◌, nat_lt, List, [], ◌∷◌, ◌++◌, take, length, map, slice_get, Some}
use Rattle.std.proofs.Common.{refl, sym, ap, ◌∙◌, arith, append-nil, eqb-true, inl, inr}
use Rattle.std.specs.List.{range_with_len, list_any}
use Rattle.std.proofs.lemmas.Bool.{cases_Bool}
use Rattle.std.proofs.lemmas.Bool.Decides.{nat_tests}
use Rattle.std.proofs.lemmas.List.{length-map, map-append, take-map}
use Rattle.std.proofs.Math.Pow.{pow_mono}
use Rattle.std.proofs.lemmas.Nat.{and_block, or_block, xor_block}
use Rattle.std.proofs.lemmas.List.FromFn.{length-range_with_len as range_length}
use Rattle.bool_functions.specs.declared.tree.Node.{Node}
use Rattle.bool_functions.specs.Tree.{value_step, value_by, xor}
use Rattle.bool_functions.specs.Point.{bit, number, entry_of}
use Rattle.bool_functions.specs.Block.{ones, word_step, word_by, word_at, word_of, name_word, named, bits_of}
use Rattle.bool_functions.proofs.Tables.{bit_below, number_below, half, low_bit}
use Rattle.bool_functions.proofs.Trees.{every_tree, fold-Zero, fold-One, fold-Name, fold-Not, fold-Xor, fold-And, fold-Or}

range-append : (a n m : ℕ) → range_with_len a n ++ range_with_len (a + n) m ≡ range_with_len a (n + m)
range-append a zero m = let e : a + 0 ≡ a = omega arith in let f : 0 + m ≡ m = omega arith in rw (e, f) refl
range-append a (suc n) m =
    let e : a + suc n ≡ (a + 1) + n = omega arith in
    let f : suc n + m ≡ suc (n + m) = omega arith in
    rw (e, f) (ap (λ ks. a ∷ ks) (range-append (a + 1) n m))

range-take : (a n m : ℕ) → m ≤ n → take m (range_with_len a n) ≡ range_with_len a m
range-take a n zero h = refl
range-take a zero (suc m) h = absurd (omega arith)
range-take a (suc n) (suc m) h = ap (λ ks. a ∷ ks) (range-take (a + 1) n m (omega arith))

range-get : {A : Type 0} (f : ℕ → A) (a n k : ℕ) → k < n → slice_get (map f (range_with_len a n)) k ≡ Some (f (a + k))
range-get f a zero k h = absurd (omega arith)
range-get f a (suc n) zero h = let e : a + 0 ≡ a = omega arith in rw e refl
range-get f a (suc n) (suc k) h = let e : a + suc k ≡ (a + 1) + k = omega arith in rw e (range-get f (a + 1) n k (omega arith))

-- the word of values, one operator
bits-and : (b c : Bool) → bit_and (bit b) (bit c) ≡ bit (b && c)
bits-and true true = refl
bits-and true false = refl
bits-and false true = refl
bits-and false false = refl

bits-or : (b c : Bool) → bit_or (bit b) (bit c) ≡ bit (b || c)
bits-or true true = refl
bits-or true false = refl
bits-or false true = refl
bits-or false false = refl

bits-xor : (b c : Bool) → bit_xor (bit b) (bit c) ≡ bit (xor b c)
bits-xor true true = refl
bits-xor true false = refl
bits-xor false true = refl
bits-xor false false = refl

turned : (b n : ℕ) → b + 2 * n ≡ n * 2 ^ 1 + b
turned b n = omega arith

words :
    (op : ℕ → ℕ → ℕ) (on : Bool → Bool → Bool)
    → ((a b r s : ℕ) → r < 2 ^ 1 → s < 2 ^ 1 → op (a * 2 ^ 1 + r) (b * 2 ^ 1 + s) ≡ op a b * 2 ^ 1 + op r s)
    → ((b c : Bool) → op (bit b) (bit c) ≡ bit (on b c)) → op 0 0 ≡ 0
    → (f g : ℕ → Bool) (points : List ℕ) → op (word_of f points) (word_of g points) ≡ word_of (λ k. on (f k) (g k)) points
words op on block bits none f g [] = none
words op on block bits none f g (k ∷ points) =
    let n : ℕ = word_of f points in
    let m : ℕ = word_of g points in
    ap (λ x. op x (bit (g k) + 2 * m)) (turned (bit (f k)) n)
    ∙ ap (λ x. op (n * 2 ^ 1 + bit (f k)) x) (turned (bit (g k)) m)
    ∙ block n m (bit (f k)) (bit (g k)) (bit_below (f k)) (bit_below (g k))
    ∙ ap (λ x. x * 2 ^ 1 + op (bit (f k)) (bit (g k))) (words op on block bits none f g points)
    ∙ ap (λ x. word_of (λ k. on (f k) (g k)) points * 2 ^ 1 + x) (bits (f k) (g k))
    ∙ sym (turned (bit (on (f k) (g k))) (word_of (λ k. on (f k) (g k)) points))

both_ways : (f : ℕ → Bool) (points : List ℕ) → word_of (λ k. not (f k)) points + word_of f points + 1 ≡ 2 ^ length points
both_ways f [] = refl
both_ways f (k ∷ points) =
    let e : 2 ^ suc (length points) ≡ 2 * 2 ^ length points = grind arith in
    let h = both_ways f points in
    let b : bit (not (f k)) + bit (f k) ≡ 1 = elim (f k) as (λ c. bit (not c) + bit c ≡ 1) [ true ↦ refl | false ↦ refl ] in
    rw e (omega arith)

none_so : (points : List ℕ) → word_of (λ k. false) points ≡ 0
none_so [] = refl
none_so (k ∷ points) = ap (λ n. 0 + 2 * n) (none_so points)

turned_all : (f : ℕ → Bool) (points : List ℕ) → length points ≡ 64 → ones - word_of f points ≡ word_of (λ k. not (f k)) points
turned_all f points h =
    let e : word_of (λ k. not (f k)) points + word_of f points + 1 ≡ 2 ^ 64 = both_ways f points ∙ ap (λ n. 2 ^ n) h
    in omega arith

all_so : (points : List ℕ) → length points ≡ 64 → ones ≡ word_of (λ k. true) points
all_so points h =
    let e : word_of (λ k. not false) points + word_of (λ k. false) points + 1 ≡ 2 ^ 64 = both_ways (λ k. false) points
    ∙ ap (λ n. 2 ^ n) h in
    let z : word_of (λ k. false) points ≡ 0 = none_so points in
    omega arith

same_values : (f g : ℕ → Bool) (points : List ℕ) → ((k : ℕ) → f k ≡ g k) → word_of f points ≡ word_of g points
same_values f g [] h = refl
same_values f g (k ∷ points) h = ap (λ b. bit b + 2 * word_of f points) (h k)
    ∙ ap (λ n. bit (g k) + 2 * n) (same_values f g points h)

-- the word of a tree is that of its values
module _ (given : ℕ → ℕ) (at : ℕ → ℕ → Bool) (points : List ℕ) where
  abbrev Shows : Node → Type 0
  Shows f = word_by given f ≡ word_of (λ k. value_by (at k) f) points

  shows_two :
      (op : ℕ → ℕ → ℕ) (on : Bool → Bool → Bool) (f g : Node)
      → ((f g : ℕ → Bool) → op (word_of f points) (word_of g points) ≡ word_of (λ k. on (f k) (g k)) points)
      → Shows f → Shows g → op (word_by given f) (word_by given g) ≡ word_of (λ k. on (value_by (at k) f) (value_by (at k) g))
      points
  shows_two op on f g together p q =
      ap (λ n. op n (word_by given g)) p
      ∙ ap (λ n. op (word_of (λ k. value_by (at k) f) points) n) q
      ∙ together (λ k. value_by (at k) f) (λ k. value_by (at k) g)

  pub word_shows : length points ≡ 64 → ((i : ℕ) → given i ≡ word_of (λ k. at k i) points) → (f : Node) → Shows f
  word_shows h names = every_tree Shows (record {
    zero_leaf =
        fold-Zero ℕ (word_step given) ∙ sym (none_so points)
        ∙ same_values (λ k. false) _ points (λ k. sym (fold-Zero Bool (value_step (at k))));
    one_leaf =
        fold-One ℕ (word_step given) ∙ all_so points h
        ∙ same_values (λ k. true) _ points (λ k. sym (fold-One Bool (value_step (at k))));
    name_leaf = λ i.
        fold-Name ℕ (word_step given) i ∙ names i
        ∙ same_values (λ k. at k i) _ points (λ k. sym (fold-Name Bool (value_step (at k)) i));
    not_of = λ f p.
        fold-Not ℕ (word_step given) f ∙ ap (λ n. ones - n) p ∙ turned_all (λ k. value_by (at k) f) points h
        ∙ same_values (λ k. not (value_by (at k) f)) _ points (λ k. sym (fold-Not Bool (value_step (at k)) f));
    xor_of = λ f g p q.
        fold-Xor ℕ (word_step given) f g
        ∙ shows_two bit_xor xor f g (λ f g. words bit_xor xor (xor_block 1) bits-xor refl f g points) p q
        ∙ same_values (λ k. xor (value_by (at k) f) (value_by (at k) g)) _ points
        (λ k. sym (fold-Xor Bool (value_step (at k)) f g));
    and_of = λ f g p q.
        fold-And ℕ (word_step given) f g
        ∙ shows_two bit_and (λ a b. a && b) f g (λ f g. words bit_and (λ a b. a && b) (and_block 1) bits-and refl f g points)
        p q
        ∙ same_values (λ k. value_by (at k) f && value_by (at k) g) _ points (λ k. sym (fold-And Bool (value_step (at k)) f g));
    or_of = λ f g p q.
        fold-Or ℕ (word_step given) f g
        ∙ shows_two bit_or (λ a b. a || b) f g (λ f g. words bit_or (λ a b. a || b) (or_block 1) bits-or refl f g points) p q
        ∙ same_values (λ k. value_by (at k) f || value_by (at k) g) _ points (λ k. sym (fold-Or Bool (value_step (at k)) f g));
  })

-- a name that is no place has the value 0
no_place : (places : List ℕ) (k i : ℕ) → list_any (λ p. p == i) places ≡ false → entry_of places k i ≡ false
no_place [] k i h = refl
no_place (p ∷ places) k i h =
    elim (cases_Bool (p == i)) [
      | inl same ↦ let e : true ≡ false = rw same at h in absurd cc
      | inr other ↦ rw other (no_place places (k / 2) i (rw other at h))
    ]

looked_up :
    (f : ℕ → ℕ) (ps : List ℕ) (i : ℕ)
    → (list_any (λ p. p == i) ps ≡ false → f i ≡ 0) → word_at (map (λ p. record { name = p; word = f p }) ps) i ≡ f i
looked_up f [] i h = sym (h refl)
looked_up f (p ∷ ps) i h =
    elim (cases_Bool (p == i)) [
      | inl same ↦ rw same (ap f (eqb-true p i same))
      | inr other ↦ rw other (looked_up f ps i (λ none. h (rw other none)))
    ]

pub names_shown : (places : List ℕ) (start i : ℕ) → word_at (map (named places start) places) i ≡ name_word places start i
names_shown places start i =
    looked_up (name_word places start) places i (λ none.
    same_values (λ k. entry_of places k i) (λ k. false) (range_with_len start 64) (λ k. no_place places k i none)
    ∙ none_so (range_with_len start 64))

-- the bits of a word of values are the values
bits_shown : (n : ℕ) (bs : List Bool) → n ≤ length bs → bits_of n (number bs) ≡ take n bs
bits_shown zero bs h = refl
bits_shown (suc n) [] h = absurd (omega arith)
bits_shown (suc n) (b ∷ bs) h =
    ap (λ c. c ∷ bits_of n ((bit b + 2 * number bs) / 2)) (low_bit b (number bs))
    ∙ ap (λ m. b ∷ bits_of n m) (half b (number bs))
    ∙ ap (λ cs. b ∷ cs) (bits_shown n bs (omega arith))

pub block_shown :
    (f : Node) (places : List ℕ) (start count : ℕ)
    → count ≤ 64
    → bits_of count (word_by (word_at (map (named places start) places)) f) ≡ map (λ k. value_by (entry_of places k) f)
    (range_with_len start count)
block_shown f places start count h =
    let points : List ℕ = range_with_len start 64 in
    let v : ℕ → Bool = λ k. value_by (entry_of places k) f in
    let full : length points ≡ 64 = range_length start 64 in
    let long : count ≤ length (map v points) = let e : length (map v points) ≡ length points = length-map points v in omega arith
    in
    ap (bits_of count) (word_shows (word_at (map (named places start) places)) (entry_of places) points full
    (names_shown places start) f)
    ∙ bits_shown count (map v points) long
    ∙ take-map v count points
    ∙ ap (map v) (range-take start 64 count h)

-- a word of fewer values than bits
pub word_below : (f : ℕ → Bool) (a n word : ℕ) → n < 64 → word ≡ word_of f (range_with_len a n) → word < 2 ^ 63
word_below f a n word h w =
    let len : length (map f (range_with_len a n)) ≡ n = length-map (range_with_len a n) f ∙ range_length a n in
    let below : word_of f (range_with_len a n) < 2 ^ length (map f (range_with_len a n)) =
    number_below (map f (range_with_len a n)) in
    let small : n ≤ 63 = omega arith in
    let most : 2 ^ n ≤ 2 ^ 63 = pow_mono small in
    let same : 2 ^ length (map f (range_with_len a n)) ≡ 2 ^ n = ap (λ m. 2 ^ m) len in
    omega arith

pub whole_word : (f : ℕ → Bool) (start step word : ℕ) → step ≡ 64 → word ≡ word_of f (range_with_len (start + (64 - step)) step)
    → word ≡ word_of f (range_with_len start 64)
whole_word f start step word e w =
    let s : start + (64 - step) ≡ start = omega arith in
    w ∙ ap (λ n. word_of f (range_with_len n step)) s ∙ ap (λ n. word_of f (range_with_len start n)) e

-- one more bit of a word
pub next_bit : (at count word : ℕ) → at < count
    → bits_of (count - at) word ≡ (word % 2 == 1) ∷ bits_of (count - (at + 1)) (word / 2)
next_bit at count word h = let e : count - at ≡ suc (count - (at + 1)) = omega arith in rw e refl

-- a block of no points
pub no_points : (f : ℕ → Bool) (values : List Bool) (start n : ℕ) → n ≡ 0 → values ≡ values ++ map f (range_with_len start n)
no_points f values start n e = rw e (sym (append-nil values))

-- one more block
inner_block :
    (f : ℕ → Bool) (values : List Bool) (block count : ℕ)
    → 64 * block < count → values ≡ map f (range_with_len 0 (min (64 * block) count))
    → values ++ map f (range_with_len (64 * block) (min (count - 64 * block) 64)) ≡ map f
    (range_with_len 0 (min (64 * (block + 1)) count))
inner_block f values block count h v =
    let here : min (64 * block) count ≡ 64 * block = omega arith in
    let all : 64 * block + min (count - 64 * block) 64 ≡ min (64 * (block + 1)) count = omega arith in
    let zero_first : 0 + 64 * block ≡ 64 * block = omega arith in
    let joint : range_with_len 0 (64 * block) ++ range_with_len (64 * block) (min (count - 64 * block) 64) ≡ range_with_len 0
    (64 * block + min (count - 64 * block) 64) =
    ap (λ n. range_with_len 0 (64 * block) ++ range_with_len n (min (count - 64 * block) 64)) (sym zero_first)
    ∙ range-append 0 (64 * block) (min (count - 64 * block) 64) in
    ap (λ vs. vs ++ map f (range_with_len (64 * block) (min (count - 64 * block) 64)))
    (v ∙ ap (λ n. map f (range_with_len 0 n)) here)
    ∙ sym (map-append f (range_with_len 0 (64 * block)) (range_with_len (64 * block) (min (count - 64 * block) 64)))
    ∙ ap (map f) (joint ∙ ap (range_with_len 0) all)

pub next_block :
    (f : ℕ → Bool) (values : List Bool) (block count : ℕ)
    → values ≡ map f (range_with_len 0 (min (64 * block) count))
    → values ++ map f (range_with_len (64 * block) (min (count - 64 * block) 64)) ≡ map f
    (range_with_len 0 (min (64 * (block + 1)) count))
next_block f values block count v =
    elim (cases_Bool (nat_lt (64 * block) count)) [
      | inl inside ↦ inner_block f values block count (grind (arith, nat_tests)) v
      | inr outside ↦
          let above : count ≤ 64 * block = grind (arith, nat_tests) in
          let none : min (count - 64 * block) 64 ≡ 0 = omega arith in
          let same : min (64 * block) count ≡ min (64 * (block + 1)) count = omega arith in
          sym (no_points f values (64 * block) (min (count - 64 * block) 64) none) ∙ v ∙ ap (λ n. map f (range_with_len 0 n)) same
    ]

pub all_blocks :
    (f : ℕ → Bool) (values : List Bool) (blocks count : ℕ)
    → 16 ≤ blocks → count ≤ 1024 → values ≡ map f (range_with_len 0 (min (64 * blocks) count))
    → values ≡ map f (range_with_len 0 count)
all_blocks f values blocks count b h v = let same : min (64 * blocks) count ≡ count = omega arith
    in v ∙ ap (λ n. map f (range_with_len 0 n)) same

pub all_got : (f : ℕ → Bool) (values : List Bool) (count k : ℕ) → values ≡ map f (range_with_len 0 count) → k < count
    → slice_get values k ≡ Some (f k)
all_got f values count k v h = let e : 0 + k ≡ k = omega arith
    in ap (λ vs. slice_get vs k) v ∙ range-get f 0 count k h ∙ ap (λ n. Some (f n)) e

pub all_count : (f : ℕ → Bool) (values : List Bool) (count : ℕ) → values ≡ map f (range_with_len 0 count) → length values ≡ count
all_count f values count v = ap length v ∙ length-map (range_with_len 0 count) f ∙ range_length 0 count
