-- Numbers of bits: shifts by them, words made of two halves, and the words of a cube with one more place at its end.
use Rattle.std.proofs.Common.{◌≡◌, ℕ, zero, suc, ◌+◌, ◌-◌, ◌*◌, ◌/◌, ◌%◌, ◌^◌, ◌<◌, ◌≤◌, Bool, true, false, List, [], ◌∷◌, ◌++◌}
use Rattle.std.proofs.Common.{length, map, slice_index_or, refl, sym, ◌∙◌, ap, arith, pow-suc}
use Rattle.std.proofs.lemmas.List.{length-append, length-map}
use Rattle.std.proofs.lemmas.Nat.{mod-mul-add, div-mul-add, pow-add, pow_pos, and_le_l}
use Rattle.std.proofs.Math.Nat.{mod-eq_of_lt, mod-lt, div-lt_iff_lt-mul}
use Rattle.trit_cubes.specs.declared.trits.Trit.{Trit}
use Rattle.trit_cubes.specs.declared.trits.Trit.TheVariants.{Zero, One, Unknown}
use Rattle.trit_cubes.specs.Filling.{bit, number}
use Rattle.trit_cubes.specs.Words.{fixed_bit, value_bit, fixed_word, value_word, trit_of_bits, trits_of}
use Rattle.trit_cubes.specs.InWords.{in_word, word_part}
use Rattle.trit_cubes.proofs.WordLemmas.{fixed_bit-lt, value_bit-lt}

-- what holds of each number of places below six
below-six : (P : ℕ → Type 0) → P 0 → P 1 → P 2 → P 3 → P 4 → P 5 → (n : ℕ) → n < 6 → P n
below-six P p q r s t u zero h = p
below-six P p q r s t u (suc zero) h = q
below-six P p q r s t u (suc (suc zero)) h = r
below-six P p q r s t u (suc (suc (suc zero))) h = s
below-six P p q r s t u (suc (suc (suc (suc zero)))) h = t
below-six P p q r s t u (suc (suc (suc (suc (suc zero))))) h = u
below-six P p q r s t u (suc (suc (suc (suc (suc (suc n)))))) h = absurd (omega arith)

-- half the bits of a word over at most six places
pub half-bits : (n : ℕ) → n < 6 → 1 * 2 ^ n % 4294967296 ≡ 2 ^ n
half-bits = below-six (λ n. 1 * 2 ^ n % 4294967296 ≡ 2 ^ n) refl refl refl refl refl refl

pub half-small : (n : ℕ) → n < 6 → 2 ^ n < 64
half-small = below-six (λ n. 2 ^ n < 64) (omega arith) (omega arith) (omega arith) (omega arith) (omega arith) (omega arith)

pub half-fits : (n : ℕ) → n < 6 → 1 * 2 ^ 2 ^ n % 18446744073709551616 ≡ 2 ^ 2 ^ n
half-fits = below-six (λ n. 1 * 2 ^ 2 ^ n % 18446744073709551616 ≡ 2 ^ 2 ^ n) refl refl refl refl refl refl

pub half-below : (n : ℕ) → n < 6 → 2 ^ 2 ^ n ≤ 4294967296
half-below = below-six (λ n. 2 ^ 2 ^ n ≤ 4294967296) (omega arith) (omega arith) (omega arith) (omega arith) (omega arith)
    (omega arith)

-- twice the bits
pub double-bits : (n : ℕ) → 2 ^ 2 ^ suc n ≡ 2 ^ 2 ^ n * 2 ^ 2 ^ n
double-bits n =
    let twice : 2 ^ suc n ≡ 2 ^ n + 2 ^ n = rw pow-suc (omega arith) in
    ap (λ k. 2 ^ k) twice ∙ pow-add 2 (2 ^ n) (2 ^ n)

mul_le : (a b c : ℕ) → a ≤ b → a * c ≤ b * c
mul_le zero b c l = omega arith
mul_le (suc a) zero c l = absurd (omega arith)
mul_le (suc a) (suc b) c l = omega (arith, mul_le a b c (omega arith))

below-product : (h z o : ℕ) → z < h → o < h → z + o * h < h * h
below-product zero z o p q = absurd (omega arith)
below-product (suc h) z o p q =
    let most : o * suc h ≤ h * suc h = mul_le o h (suc h) (omega arith) in
    omega (arith, most)

-- a word made of two halves fits, and is below the next power
pub packed-below : (n zero_half one_half : ℕ) → zero_half < 2 ^ 2 ^ n → one_half < 2 ^ 2 ^ n
    → zero_half + one_half * 2 ^ 2 ^ n < 2 ^ 2 ^ suc n
packed-below n z o p q = rw (double-bits n) (below-product (2 ^ 2 ^ n) z o p q)

-- the points of a word made of two halves
pub packed-values : (n zero_half one_half start step : ℕ) (set : List Bool) → zero_half < 2 ^ 2 ^ n
    → ((p : List Bool) → length p ≡ n → in_word n zero_half p ≡ slice_index_or set (start + 2 * step * number p) false)
    → ((p : List Bool) → length p ≡ n → in_word n one_half p ≡ slice_index_or set (start + step + 2 * step * number p) false)
    → (p : List Bool) → length p ≡ suc n
    → in_word (suc n) (zero_half + one_half * 2 ^ 2 ^ n) p ≡ slice_index_or set (start + step * number p) false
packed-values n z o start step set l hz ho [] e = absurd (omega arith)
packed-values n z o start step set l hz ho (false ∷ p) e =
    let high : (o * 2 ^ 2 ^ n + z) % 2 ^ 2 ^ n ≡ z = mod-mul-add o (2 ^ 2 ^ n) z l in
    let swap : z + o * 2 ^ 2 ^ n ≡ o * 2 ^ 2 ^ n + z = omega arith in
    let at : start + 2 * step * number p ≡ start + step * (0 + 2 * number p) = omega arith in
    ap (λ w. in_word n (w % 2 ^ 2 ^ n) p) swap ∙ ap (λ w. in_word n w p) high ∙ hz p (omega arith)
    ∙ ap (λ k. slice_index_or set k false) at
packed-values n z o start step set l hz ho (true ∷ p) e =
    let high : (o * 2 ^ 2 ^ n + z) / 2 ^ 2 ^ n ≡ o = div-mul-add o (2 ^ 2 ^ n) z l in
    let swap : z + o * 2 ^ 2 ^ n ≡ o * 2 ^ 2 ^ n + z = omega arith in
    let at : start + step + 2 * step * number p ≡ start + step * (1 + 2 * number p) = omega arith in
    ap (λ w. in_word n (w / 2 ^ 2 ^ n) p) swap ∙ ap (λ w. in_word n w p) high ∙ ho p (omega arith)
    ∙ ap (λ k. slice_index_or set k false) at

-- one more place at the end
fixed_word-last : (ts : List Trit) (t : Trit) → fixed_word (ts ++ t ∷ []) ≡ fixed_word ts + fixed_bit t * 2 ^ length ts
fixed_word-last [] t = omega arith
fixed_word-last (s ∷ ts) t = rw pow-suc (omega (arith, fixed_word-last ts t))

value_word-last : (ts : List Trit) (t : Trit) → value_word (ts ++ t ∷ []) ≡ value_word ts + value_bit t * 2 ^ length ts
value_word-last [] t = omega arith
value_word-last (s ∷ ts) t = rw pow-suc (omega (arith, value_word-last ts t))

length-last : (ts : List Trit) (t : Trit) → length (ts ++ t ∷ []) ≡ length ts + 1
length-last [] t = refl
length-last (s ∷ ts) t = omega (arith, length-last ts t)

bits-trit : (t : Trit) → trit_of_bits (fixed_bit t) (value_bit t) ≡ t
bits-trit Zero = refl
bits-trit One = refl
bits-trit Unknown = refl

trits_of-words : (ts : List Trit) → trits_of (length ts) (fixed_word ts) (value_word ts) ≡ ts
trits_of-words [] = refl
trits_of-words (t ∷ ts) =
    let f_low : (fixed_bit t + 2 * fixed_word ts) % 2 ≡ fixed_bit t = omega (arith, fixed_bit-lt t) in
    let f_high : (fixed_bit t + 2 * fixed_word ts) / 2 ≡ fixed_word ts = omega (arith, fixed_bit-lt t) in
    let v_low : (value_bit t + 2 * value_word ts) % 2 ≡ value_bit t = omega (arith, value_bit-lt t) in
    let v_high : (value_bit t + 2 * value_word ts) / 2 ≡ value_word ts = omega (arith, value_bit-lt t) in
    rw (f_low, f_high, v_low, v_high, bits-trit t, trits_of-words ts) refl

shifted : (k : ℕ) → k < 10 → 1 * 2 ^ k < 65536
shifted zero h = omega arith
shifted (suc zero) h = omega arith
shifted (suc (suc zero)) h = omega arith
shifted (suc (suc (suc zero))) h = omega arith
shifted (suc (suc (suc (suc zero)))) h = omega arith
shifted (suc (suc (suc (suc (suc zero))))) h = omega arith
shifted (suc (suc (suc (suc (suc (suc zero)))))) h = omega arith
shifted (suc (suc (suc (suc (suc (suc (suc zero))))))) h = omega arith
shifted (suc (suc (suc (suc (suc (suc (suc (suc zero)))))))) h = omega arith
shifted (suc (suc (suc (suc (suc (suc (suc (suc (suc zero))))))))) h = omega arith
shifted (suc (suc (suc (suc (suc (suc (suc (suc (suc (suc k)))))))))) h = absurd (omega arith)

bit-shifted : (b k : ℕ) → b < 2 → k < 10 → b * 2 ^ k % 65536 ≡ b * 2 ^ k
bit-shifted zero k l h = mod-eq_of_lt (omega arith)
bit-shifted (suc zero) k l h = mod-eq_of_lt (shifted k h)
bit-shifted (suc (suc b)) k l h = absurd (omega arith)

pub fixed-behind : (ts : List Trit) (t : Trit) (len f b : ℕ) → len ≡ length ts → length ts < 10 → f ≡ fixed_word ts
    → b ≡ fixed_bit t
    → f + b * 2 ^ len % 65536 ≡ fixed_word (ts ++ t ∷ [])
fixed-behind ts t len f b long room words bits =
    rw (long, words, bits, bit-shifted (fixed_bit t) (length ts) (fixed_bit-lt t) room) (sym (fixed_word-last ts t))

pub value-behind : (ts : List Trit) (t : Trit) (len v b : ℕ) → len ≡ length ts → length ts < 10 → v ≡ value_word ts
    → b ≡ value_bit t
    → v + b * 2 ^ len % 65536 ≡ value_word (ts ++ t ∷ [])
value-behind ts t len v b long room words bits =
    rw (long, words, bits, bit-shifted (value_bit t) (length ts) (value_bit-lt t) room) (sym (value_word-last ts t))

pub trits-behind : (ts : List Trit) (t : Trit) (len f v : ℕ) → len ≡ length ts
    → f ≡ fixed_word (ts ++ t ∷ []) → v ≡ value_word (ts ++ t ∷ []) → trits_of (len + 1) f v ≡ ts ++ t ∷ []
trits-behind ts t len f v long fixed values =
    let longer : len + 1 ≡ length (ts ++ t ∷ []) = ap (λ n. n + 1) long ∙ sym (length-last ts t) in
    rw (longer, fixed, values) (trits_of-words (ts ++ t ∷ []))

pub length-behind : (ts : List Trit) (t : Trit) (len : ℕ) → len ≡ length ts → len + 1 ≡ length (ts ++ t ∷ [])
length-behind ts t len long = ap (λ n. n + 1) long ∙ sym (length-last ts t)

-- the lengths of lists made so
pub length-longer : {X : Type 0} (xs ys : List X) (x : X) → ys ≡ xs ++ x ∷ [] → length ys ≡ length xs + 1
length-longer xs ys x e = ap length e ∙ length-append xs (x ∷ [])

pub length-parts_and : (f : ℕ → ℕ) (gs xs : List ℕ) (b : ℕ) → xs ≡ map f gs ++ b ∷ [] → length xs ≡ length gs + 1
length-parts_and f gs xs b e = ap length e ∙ length-append (map f gs) (b ∷ []) ∙ ap (λ n. n + 1) (length-map gs f)

pub length-parts : (f : ℕ → ℕ) (gs xs : List ℕ) → xs ≡ map f gs → length xs ≡ length gs
length-parts f gs xs e = ap length e ∙ length-map gs f

-- the parts of a word are below the lower power
part-below : (n : ℕ) (t : Trit) (w : ℕ) → w < 2 ^ 2 ^ suc n → word_part n t w < 2 ^ 2 ^ n
part-below n Zero w l = mod-lt w (pow_pos (2 ^ n))
part-below n One w l = (div-lt_iff_lt-mul (pow_pos (2 ^ n))).1 (omega (arith, l, double-bits n))
part-below n Unknown w l =
    let first : w % 2 ^ 2 ^ n < 2 ^ 2 ^ n = mod-lt w (pow_pos (2 ^ n)) in
    omega (arith, first, and_le_l (w % 2 ^ 2 ^ n) (w / 2 ^ 2 ^ n))

pub part-is_below : (n left : ℕ) (t : Trit) (w v : ℕ) → left ≡ suc n → w < 2 ^ 2 ^ left → v ≡ word_part n t w → v < 2 ^ 2 ^ n
part-is_below n left t w v el l e =
    let wide : 2 ^ 2 ^ left ≡ 2 ^ 2 ^ suc n = ap (λ m. 2 ^ 2 ^ m) el in
    omega (arith, e, part-below n t w (omega (arith, l, wide)))

-- a table of a step twice as wide
pub step-double : (n left step entries : ℕ) → left ≡ suc n → entries ≡ step * 2 ^ left → entries ≡ 2 * step * 2 ^ n
step-double n left step entries el e =
    e ∙ ap (λ m. step * 2 ^ m) el ∙ (rw pow-suc (omega arith))

-- a word made of two halves, as the code makes it
word-fits : (n z o : ℕ) → n < 6 → z < 2 ^ 2 ^ n → o < 2 ^ 2 ^ n → z + o * 2 ^ 2 ^ n < 18446744073709551616
word-fits n z o l p q =
    let most : 2 ^ 2 ^ n ≤ 4294967296 = half-below n l in
    let square : 2 ^ 2 ^ n * 2 ^ 2 ^ n ≤ 4294967296 * 2 ^ 2 ^ n = mul_le (2 ^ 2 ^ n) 4294967296 (2 ^ 2 ^ n) most in
    omega (arith, most, square, below-product (2 ^ 2 ^ n) z o p q)

pub packed-is : (n z o : ℕ) → n < 6 → z < 2 ^ 2 ^ n → o < 2 ^ 2 ^ n
    → o * 2 ^ (1 * 2 ^ n % 4294967296) % 18446744073709551616 ≡ o * 2 ^ 2 ^ n
packed-is n z o l p q =
    ap (λ k. o * 2 ^ k % 18446744073709551616) (half-bits n l)
    ∙ mod-eq_of_lt (omega (arith, word-fits n z o l p q))

pub packed-fits : (n z o : ℕ) → n < 6 → z < 2 ^ 2 ^ n → o < 2 ^ 2 ^ n
    → z + o * 2 ^ (1 * 2 ^ n % 4294967296) % 18446744073709551616 < 18446744073709551616
packed-fits n z o l p q = rw (packed-is n z o l p q) (word-fits n z o l p q)

pub packed-is_below : (n left z o : ℕ) → left ≡ suc n → n < 6 → z < 2 ^ 2 ^ n → o < 2 ^ 2 ^ n
    → z + o * 2 ^ (1 * 2 ^ n % 4294967296) % 18446744073709551616 < 2 ^ 2 ^ left
packed-is_below n left z o el l p q =
    let wide : 2 ^ 2 ^ left ≡ 2 ^ 2 ^ suc n = ap (λ m. 2 ^ 2 ^ m) el in
    rw (packed-is n z o l p q) (omega (arith, wide, packed-below n z o p q))

pub packed-has : (n left z o start step : ℕ) (set : List Bool) → left ≡ suc n → n < 6 → z < 2 ^ 2 ^ n → o < 2 ^ 2 ^ n
    → ((p : List Bool) → length p ≡ n → in_word n z p ≡ slice_index_or set (start + 2 * step * number p) false)
    → ((p : List Bool) → length p ≡ n → in_word n o p ≡ slice_index_or set (start + step + 2 * step * number p) false)
    → (p : List Bool) → length p ≡ left
    → in_word left (z + o * 2 ^ (1 * 2 ^ n % 4294967296) % 18446744073709551616) p ≡ slice_index_or set
    (start + step * number p) false
packed-has n left z o start step set el l p q hz ho point e =
    ap (λ x. in_word left (z + x) point) (packed-is n z o l p q)
    ∙ ap (λ m. in_word m (z + o * 2 ^ 2 ^ n) point) el
    ∙ packed-values n z o start step set p hz ho point (e ∙ el)

-- the number of the last place, where there is one
pub one-less : (left : ℕ) → (left ≡ 0 → ⊥) → left ≡ suc (left - 1)
one-less left some = omega (arith, some)

-- the part of a set that has this first place is one over the other places, behind a longer front
pub part-follows : (left more before : ℕ) (t : Trit) (w v : ℕ) (front longer : List Trit)
    → left ≡ suc (left - 1) → left + before ≤ 6 → length front + left ≤ 10 → w < 2 ^ 2 ^ left
    → more ≤ before + 1 → longer ≡ front ++ t ∷ [] → v ≡ word_part (left - 1) t w
    → (left - 1 + more ≤ 6) × ((length longer + (left - 1) ≤ 10) × (v < 2 ^ 2 ^ (left - 1)))
part-follows left more before t w v front longer some few room below long e is = (
  omega (arith, few, long, some),
  (omega (arith, room, some, length-longer front longer t e), part-is_below (left - 1) left t w v some below is),
)

-- the word of two points
pub pair-has : (zero_bit one_bit : Bool) (z o start step : ℕ) (set : List Bool) → z ≡ bit zero_bit → o ≡ bit one_bit
    → zero_bit ≡ slice_index_or set start false → one_bit ≡ slice_index_or set (start + step) false
    → (p : List Bool) → length p ≡ 1 → in_word 1 (z + 2 * o) p ≡ slice_index_or set (start + step * number p) false
pair-has b d z o start step set ez eo hb hd [] e = absurd (omega arith)
pair-has b d z o start step set ez eo hb hd (x ∷ y ∷ p) e = absurd (omega arith)
pair-has b d z o start step set ez eo hb hd (false ∷ []) e =
    let at : start ≡ start + step * (0 + 2 * 0) = omega arith in
    rw (ez, eo) (pair_first b d) ∙ hb ∙ ap (λ k. slice_index_or set k false) at
  where
    pair_first : (b d : Bool) → in_word 0 ((bit b + 2 * bit d) % 2 ^ 2 ^ 0) [] ≡ b
    pair_first true true = refl
    pair_first true false = refl
    pair_first false true = refl
    pair_first false false = refl
pair-has b d z o start step set ez eo hb hd (true ∷ []) e =
    let at : start + step ≡ start + step * (1 + 2 * 0) = omega arith in
    rw (ez, eo) (pair_second b d) ∙ hd ∙ ap (λ k. slice_index_or set k false) at
  where
    pair_second : (b d : Bool) → in_word 0 ((bit b + 2 * bit d) / 2 ^ 2 ^ 0) [] ≡ d
    pair_second true true = refl
    pair_second true false = refl
    pair_second false true = refl
    pair_second false false = refl
