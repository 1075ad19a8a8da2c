-- Words of places and of names.
use Rattle.std.proofs.Common.{◌≡◌, ◌≢◌, ℕ, zero, suc, ◌+◌, ◌*◌, ◌-◌, ◌/◌, ◌%◌, ◌^◌, ◌<◌, ◌≤◌, Bool, true, false, not, nat_eq}
use Rattle.std.proofs.Common.{List, [], ◌∷◌, ◌++◌, length, map, take, drop, get_or, refl, sym, ap, ◌∙◌, arith}
use Rattle.std.proofs.Common.{subst, inl, inr, w64}
use Rattle.std.specs.Prelude.{bit_xor, slice_set}
use Rattle.std.specs.List.{range_with_len}
use Rattle.std.specs.Int.{bit_at, trailing_zeros}
use Rattle.std.proofs.lemmas.Bool.{agree_below, agree_below_at, cases_eq, cases_lt}
use Rattle.std.proofs.lemmas.Nat.{pow_pos, pow_below, xor_lt}
use Rattle.std.proofs.lemmas.List.{get_or_past, get_or-replicate, length-set}
use Rattle.std.proofs.lemmas.Nat.Bits.{bit_at-suc, bit_at_lowest, bit_at_cat_low, bit_at_cat_high, bit_at_xor, bit_at_ones}
use Rattle.std.proofs.lemmas.Nat.Bits.{bit_at-lt, bit_at-pow_same, bit_at-pow_other, bit_at-trailing_zeros, same_from_bits}
use Rattle.trit_cubes.specs.Filling.{number}
use Rattle.trit_cubes.specs.Sets.{point_of}
use Rattle.trit_cubes.proofs.PointLemmas.{length-point_of}
use Rattle.statetables.specs.Lanes.{lane}
use Rattle.statetables.proofs.LaneLemmas.{lane_none}
use Rattle.cell_machine.specs.Values.{no_values, written}
use Rattle.cell_machine.proofs.GroupSteps.{length-no_values}
use Rattle.step_tables.specs.Turned.{turned}
use Rattle.step_tables.proofs.PointLemmas.{turned_past, number_back}

other_bit : (x : ℕ) → x < 2 → nat_eq ((x + 1) % 2) 1 ≡ not (nat_eq x 1)
other_bit zero h = refl
other_bit (suc zero) h = refl
other_bit (suc (suc x)) h = absurd (omega (arith, h))

-- the word of the other values
pub lane_inverted : (word k : ℕ) → k < 64 → lane k (bit_xor word 18446744073709551615) ≡ not (lane k word)
unfolding lane
lane_inverted word k h =
    ap (λ x. nat_eq x 1) (bit_at_xor word 18446744073709551615 k ∙ ap (λ x. (bit_at word k + x) % 2) (bit_at_ones 64 k h))
    ∙ other_bit (bit_at word k) (bit_at-lt word k)

-- a place that repeats within 64 points
pub low_place :
    (place word block k : ℕ) → place < 6 → agree_below (λ j. lane j word) (λ j. lane place j) 64 ≡ true → k < 64
    → lane k word ≡ lane place (64 * block + k)
unfolding lane
low_place place word block k below agree h =
    let at : block * 2 ^ 6 + k ≡ 64 * block + k = omega arith in
    agree_below_at (λ j. lane j word) (λ j. lane place j) 64 k agree h
    ∙ ap (λ x. nat_eq x 1) (sym (bit_at_cat_low block 6 k place below) ∙ ap (λ n. bit_at n place) at)

-- a place that is the same at all of them
pub high_place : (place block k : ℕ) → 6 ≤ place → k < 64 → lane (place - 6) block ≡ lane place (64 * block + k)
unfolding lane
high_place place block k above h =
    let at : block * 2 ^ 6 + k ≡ 64 * block + k = omega arith in
    ap (λ x. nat_eq x 1) (sym (bit_at_cat_high block 6 k place (omega (arith, h)) above) ∙ ap (λ n. bit_at n place) at)

lane_first : (m : ℕ) → lane 0 m ≡ nat_eq (m % 2) 1
unfolding lane
lane_first m = ap (λ x. nat_eq x 1) (bit_at_lowest m)

lane_next : (j m : ℕ) → lane (suc j) m ≡ lane j (m / 2)
unfolding lane
lane_next j m = ap (λ x. nat_eq x 1) (bit_at-suc m j)

places_next : (m j n : ℕ) → map (λ i. lane i m) (range_with_len (j + 1) n) ≡ map (λ i. lane i (m / 2)) (range_with_len j n)
places_next m j zero = refl
places_next m j (suc n) =
    let more : j + 1 ≡ suc j = omega arith in
    λ i. (ap (λ q. lane q m) more ∙ lane_next j m) i ∷ places_next m (j + 1) n i

-- the places of a point
pub places_point : (n m : ℕ) → map (λ i. lane i m) (range_with_len 0 n) ≡ point_of n m
places_point zero m = refl
places_point (suc n) m = λ i. lane_first m i ∷ (places_next m 0 n ∙ places_point n (m / 2)) i

lanes_append : (k : ℕ) (xs ys : List ℕ) → map (lane k) (xs ++ ys) ≡ map (lane k) xs ++ map (lane k) ys
lanes_append k [] ys = refl
lanes_append k (x ∷ xs) ys = ap (λ zs. lane k x ∷ zs) (lanes_append k xs ys)

-- one more place
pub words_turn :
    (k place m word : ℕ) (words next : List ℕ) → next ≡ words ++ word ∷ [] → lane k word ≡ lane place m
    → map (lane k) words ≡ map (λ i. lane i m) (range_with_len 0 place)
    → map (λ i. lane i m) (range_with_len 0 (place + 1)) ≡ map (λ i. lane i m) (range_with_len 0 place) ++ lane place m ∷ []
    → map (lane k) next ≡ map (λ i. lane i m) (range_with_len 0 (place + 1))
words_turn k place m word words next is here so_far more =
    ap (map (lane k)) is ∙ lanes_append k words (word ∷ []) ∙ (λ i. so_far i ++ here i ∷ []) ∙ sym more

-- the words of the places of points at which one is turned
pub lanes_turned :
    (k place word : ℕ) (words : List ℕ) → place < length words → lane k word ≡ not (lane k (get_or words place 0))
    → map (lane k) ((take place words ++ word ∷ []) ++ drop (suc place) words) ≡ turned place (map (lane k) words)
lanes_turned k place word [] h e = absurd (omega (arith, h))
lanes_turned k zero word (x ∷ words) h e = λ i. e i ∷ map (lane k) words
lanes_turned k (suc place) word (x ∷ words) h e =
    ap (λ zs. lane k x ∷ zs) (lanes_turned k place word words (omega (arith, h)) e)

-- two points that differ in one place alone
same_places :
    (n a b : ℕ) → ((i : ℕ) → lane i b ≡ lane i a) → point_of n b ≡ point_of n a
same_places zero a b h = refl
same_places (suc n) a b h =
    λ i. (sym (lane_first b) ∙ h 0 ∙ lane_first a) i
    ∷ same_places n (a / 2) (b / 2) (λ j. sym (lane_next j b) ∙ h (suc j) ∙ lane_next j a) i

other_places :
    (n p a b : ℕ) → p < n → lane p b ≡ not (lane p a) → ((i : ℕ) → i ≢ p → lane i b ≡ lane i a)
    → point_of n b ≡ turned p (point_of n a)
other_places zero p a b l turns h = absurd (omega (arith, l))
other_places (suc n) zero a b l turns h =
    λ i. (sym (lane_first b) ∙ turns ∙ ap not (lane_first a)) i
    ∷ same_places n (a / 2) (b / 2) (λ j. sym (lane_next j b) ∙ h (suc j) (λ e. omega (arith, e)) ∙ lane_next j a) i
other_places (suc n) (suc p) a b l turns h =
    λ i. (sym (lane_first b) ∙ h 0 (λ e. omega (arith, e)) ∙ lane_first a) i
    ∷ other_places n p (a / 2) (b / 2) (omega (arith, l)) (sym (lane_next p b) ∙ turns ∙ ap not (lane_next p a))
    (λ j ne. sym (lane_next j b) ∙ h (suc j) (λ e. ne (omega (arith, e))) ∙ lane_next j a) i

same_bit : (x : ℕ) → x < 2 → nat_eq ((x + 0) % 2) 1 ≡ nat_eq x 1
same_bit zero h = refl
same_bit (suc zero) h = refl
same_bit (suc (suc x)) h = absurd (omega (arith, h))

pub turned_point :
    (n p before after : ℕ) → p < n → bit_xor after (2 ^ p) ≡ before → point_of n before ≡ turned p (point_of n after)
unfolding lane
turned_point n p before after l is =
    subst (λ b. point_of n b ≡ turned p (point_of n after)) is
    (other_places n p after (bit_xor after (2 ^ p)) l
    (ap (λ x. nat_eq x 1) (bit_at_xor after (2 ^ p) p ∙ ap (λ x. (bit_at after p + x) % 2) (bit_at-pow_same p))
    ∙ other_bit (bit_at after p) (bit_at-lt after p))
    (λ i ne. ap (λ x. nat_eq x 1) (bit_at_xor after (2 ^ p) i ∙ ap (λ x. (bit_at after i + x) % 2) (bit_at-pow_other p i ne))
    ∙ same_bit (bit_at after i) (bit_at-lt after i)))

-- two points with numbers that do not differ in one place alone
pub not_turned :
    (n place before after : ℕ) → before < 2 ^ n → after < 2 ^ n → before ≢ after
    → ((p : ℕ) → p < n → bit_xor after (2 ^ p) ≢ before) → point_of n before ≢ turned place (point_of n after)
not_turned n place before after small few other none e =
    elim (cases_lt place n) [
      | inl l ↦
          let there = turned_point n place (bit_xor after (2 ^ place)) after l refl in
          none place l (sym (sym (number_back n before small)
          ∙ (ap number (e ∙ sym there)
          ∙ number_back n (bit_xor after (2 ^ place)) (xor_lt n after (2 ^ place) few (pow_below place n l)))))
      | inr g ↦
          let past = turned_past place (point_of n after) (let long = length-point_of n after in omega (arith, long, g)) in
          other (sym (number_back n before small) ∙ (ap number (e ∙ past) ∙ number_back n after few))
    ]

back_turned : (after p : ℕ) → bit_xor (bit_xor after (2 ^ p)) after ≡ 2 ^ p
back_turned after p = same_from_bits (bit_xor (bit_xor after (2 ^ p)) after) (2 ^ p) (λ i.
    let whole = bit_at_xor (bit_xor after (2 ^ p)) after i in
    let part = bit_at_xor after (2 ^ p) i in
    let small = bit_at-lt after i in
    let few = bit_at-lt (2 ^ p) i in
    omega (arith, whole, part, small, few))

-- the place in which two numbers differ that differ in one place alone
pub place_turned :
    (before after p : ℕ) → p < 64 → bit_xor after (2 ^ p) ≡ before → trailing_zeros w64 (bit_xor before after) ≡ p
place_turned before after p h e =
    let power : bit_xor before after ≡ 2 ^ p = ap (λ b. bit_xor b after) (sym e) ∙ back_turned after p in
    let lowest = bit_at-trailing_zeros w64 (2 ^ p) (pow_pos p) (pow_below p 64 h) in
    elim (cases_eq (trailing_zeros w64 (2 ^ p)) p) [
      | inl is ↦ ap (trailing_zeros w64) power ∙ is
      | inr ne ↦ absurd (let none = bit_at-pow_other p (trailing_zeros w64 (2 ^ p)) ne in omega (arith, none, lowest.1))
    ]

length-written : (values : List Bool) (names : List ℕ) (point : List Bool) → length (written values names point) ≡ length values
length-written values [] point = refl
length-written values (name ∷ names) [] = refl
length-written values (name ∷ names) (b ∷ point) =
    length-written (slice_set values name b) names point ∙ length-set values name b

-- a name from 96 on has no value
pub no_name : (k name : ℕ) (names : List ℕ) (point : List Bool) → 96 ≤ name
    → lane k 0 ≡ get_or (written no_values names point) name false
no_name k name names point h =
    let long : length (written no_values names point) ≡ 96 = length-written no_values names point ∙ length-no_values in
    lane_none k ∙ sym (get_or_past (written no_values names point) name false (omega (arith, long, h)))

-- before any name is written
pub nothing_written : (k name : ℕ) → name < 96 → lane k 0 ≡ get_or no_values name false
unfolding no_values
nothing_written k name h = lane_none k ∙ sym (get_or-replicate 96 name false false h)
