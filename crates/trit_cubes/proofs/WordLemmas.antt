-- The two words of a list of trits: their size, their bits, and the test of covering by them.
use Rattle.std.proofs.Common.{◌≡◌, ℕ, zero, suc, ◌+◌, ◌*◌, ◌/◌, ◌^◌, ◌<◌, ◌≤◌, true, false, ◌&&◌, ◌||◌, nat_eq, bit_and}
use Rattle.std.proofs.Common.{List, [], ◌∷◌, length, slice_get, Some, refl, sym, ◌∙◌, ap, arith, pow-suc}
use Rattle.std.proofs.Math.Pow.{pow_mono}
use Rattle.std.proofs.lemmas.Bool.{and_right}
use Rattle.std.proofs.lemmas.Nat.{and_block, and_le_l}
use Rattle.std.proofs.lemmas.Nat.Bits.{bit_at-suc, shr_and_one, bit_at_lowest}
use Rattle.std.specs.Int.{bit_at}
use Rattle.trit_cubes.specs.declared.trits.Trit.{Trit}
use Rattle.trit_cubes.specs.declared.trits.Trit.TheVariants.{Zero, One, Unknown}
use Rattle.trit_cubes.specs.Filling.{is_unknown, same, covers}
use Rattle.trit_cubes.specs.Words.{fixed_bit, value_bit, fixed_word, value_word, trit_of_bits, trits_of}
use Rattle.trit_cubes.proofs.Basics.{and_swap}
use Rattle.trit_cubes.proofs.NumberTests.{same_parts}

pub fixed_bit-lt : (t : Trit) → fixed_bit t < 2
fixed_bit-lt t = grind arith

pub value_bit-lt : (t : Trit) → value_bit t < 2
value_bit-lt t = grind arith

fixed_word-lt : (ts : List Trit) → fixed_word ts < 2 ^ length ts
fixed_word-lt [] = omega arith
fixed_word-lt (t ∷ ts) = rw pow-suc (omega (arith, fixed_bit-lt t, fixed_word-lt ts))

value_word-lt : (ts : List Trit) → value_word ts < 2 ^ length ts
value_word-lt [] = omega arith
value_word-lt (t ∷ ts) = rw pow-suc (omega (arith, value_bit-lt t, value_word-lt ts))

pub fixed_word-below : (ts : List Trit) → length ts ≤ 10 → fixed_word ts < 1024
fixed_word-below ts short = let most : 2 ^ length ts ≤ 1024 = pow_mono short in omega (arith, fixed_word-lt ts)

pub value_word-below : (ts : List Trit) → length ts ≤ 10 → value_word ts < 1024
value_word-below ts short = let most : 2 ^ length ts ≤ 1024 = pow_mono short in omega (arith, value_word-lt ts)

-- the place of the list is made of the bits of the words at this place
places-bits : (n f v i : ℕ) → i < n → slice_get (trits_of n f v) i ≡ Some (trit_of_bits (bit_at f i) (bit_at v i))
places-bits zero f v i h = absurd (omega arith)
places-bits (suc n) f v zero h = rw (bit_at_lowest f, bit_at_lowest v) refl
places-bits (suc n) f v (suc i) h = rw (bit_at-suc f i, bit_at-suc v i) (places-bits n (f / 2) (v / 2) i (omega arith))

place : (n f v i : ℕ) → i < n → slice_get (trits_of n f v) i ≡ Some (trit_of_bits (bit_and (f / 2 ^ i) 1) (bit_and (v / 2 ^ i) 1))
place n f v i h = rw (shr_and_one f i, shr_and_one v i) (places-bits n f v i h)

free_bits : (b d : ℕ) → b ≡ 0 → trit_of_bits b d ≡ Unknown
free_bits zero d e = refl
free_bits (suc b) d e = absurd (omega arith)

zero_bits : (b d : ℕ) → (b ≡ 0 → ⊥) → d ≡ 0 → trit_of_bits b d ≡ Zero
zero_bits zero d n e = absurd (n refl)
zero_bits (suc b) zero n e = refl
zero_bits (suc b) (suc d) n e = absurd (omega arith)

one_bits : (b d : ℕ) → (b ≡ 0 → ⊥) → (d ≡ 0 → ⊥) → trit_of_bits b d ≡ One
one_bits zero d n m = absurd (n refl)
one_bits (suc b) zero n m = absurd (m refl)
one_bits (suc b) (suc d) n m = refl

pub place-free : (n f v i : ℕ) → i < n → bit_and (f / 2 ^ i) 1 ≡ 0 → slice_get (trits_of n f v) i ≡ Some Unknown
place-free n f v i h e = place n f v i h ∙ ap Some (free_bits (bit_and (f / 2 ^ i) 1) (bit_and (v / 2 ^ i) 1) e)

pub place-zero : (n f v i : ℕ) → i < n → (bit_and (f / 2 ^ i) 1 ≡ 0 → ⊥) → bit_and (v / 2 ^ i) 1 ≡ 0
    → slice_get (trits_of n f v) i ≡ Some Zero
place-zero n f v i h d e = place n f v i h ∙ ap Some (zero_bits (bit_and (f / 2 ^ i) 1) (bit_and (v / 2 ^ i) 1) d e)

pub place-one : (n f v i : ℕ) → i < n → (bit_and (f / 2 ^ i) 1 ≡ 0 → ⊥) → (bit_and (v / 2 ^ i) 1 ≡ 0 → ⊥)
    → slice_get (trits_of n f v) i ≡ Some One
place-one n f v i h d e = place n f v i h ∙ ap Some (one_bits (bit_and (f / 2 ^ i) 1) (bit_and (v / 2 ^ i) 1) d e)

-- the bits of both words, the lowest ones apart
pub and-blocks : (k b d m n : ℕ) → b < 2 ^ k → d < 2 ^ k
    → bit_and (b + 2 ^ k * m) (d + 2 ^ k * n) ≡ bit_and b d + 2 ^ k * bit_and m n
and-blocks k b d m n p q =
    let first : b + 2 ^ k * m ≡ m * 2 ^ k + b = omega arith in
    let second : d + 2 ^ k * n ≡ n * 2 ^ k + d = omega arith in
    let both : bit_and (m * 2 ^ k + b) (n * 2 ^ k + d) ≡ bit_and m n * 2 ^ k + bit_and b d = and_block k m n b d p q in
    rw (first, second, both) (omega arith)

nat_eq-double : (b d m n : ℕ) → b < 2 → d < 2 → nat_eq (b + 2 * m) (d + 2 * n) ≡ (nat_eq b d && nat_eq m n)
nat_eq-double b d m n p q =
    same_parts (b + 2 * m) (d + 2 * n) b d m n (λ e h. omega arith) (λ g. (omega arith, omega arith))

-- the test by words, the lowest bits apart
covers-double : (b d e g x y z u : ℕ) → b < 2 → d < 2 → e < 2 → g < 2
    → (nat_eq (bit_and (b + 2 * x) (d + 2 * y)) (b + 2 * x) && nat_eq (bit_and (b + 2 * x) (e + 2 * z)) (g + 2 * u))
    ≡ ((nat_eq (bit_and b d) b && nat_eq (bit_and b e) g) && (nat_eq (bit_and x y) x && nat_eq (bit_and x z) u))
covers-double b d e g x y z u b-lt d-lt e-lt g-lt =
    let fixed : bit_and b d < 2 = omega (arith, and_le_l b d) in
    let valued : bit_and b e < 2 = omega (arith, and_le_l b e) in
    rw (
      and-blocks 1 b d x y b-lt d-lt,
      and-blocks 1 b e x z b-lt e-lt,
      nat_eq-double (bit_and b d) b
          (bit_and x y) x fixed b-lt,
      nat_eq-double (bit_and b e) g (bit_and x z) u valued g-lt,
    )
    (and_swap (nat_eq (bit_and b d) b) (nat_eq (bit_and x y) x) (nat_eq (bit_and b e) g) (nat_eq (bit_and x z) u))

covers-bits : (w n : Trit) → (nat_eq (bit_and (fixed_bit w) (fixed_bit n)) (fixed_bit w)
    && nat_eq (bit_and (fixed_bit w) (value_bit n)) (value_bit w)) ≡ (is_unknown w || same w n)
covers-bits Zero Zero = refl
covers-bits Zero One = refl
covers-bits Zero Unknown = refl
covers-bits One Zero = refl
covers-bits One One = refl
covers-bits One Unknown = refl
covers-bits Unknown Zero = refl
covers-bits Unknown One = refl
covers-bits Unknown Unknown = refl

pub covers-words : (ws ns : List Trit) → length ws ≡ length ns
    → (nat_eq (bit_and (fixed_word ws) (fixed_word ns)) (fixed_word ws)
    && nat_eq (bit_and (fixed_word ws) (value_word ns)) (value_word ws)) ≡ covers ws ns
covers-words [] [] e = refl
covers-words [] (n ∷ ns) e = absurd (omega arith)
covers-words (w ∷ ws) [] e = absurd (omega arith)
covers-words (w ∷ ws) (n ∷ ns) e =
    covers-double (fixed_bit w) (fixed_bit n) (value_bit n) (value_bit w) (fixed_word ws) (fixed_word ns) (value_word ns)
    (value_word ws) (fixed_bit-lt w) (fixed_bit-lt n) (value_bit-lt n) (value_bit-lt w)
    ∙ rw (covers-bits w n, covers-words ws ns (omega arith)) refl

-- lists of different lengths
pub covers-unlike : (ws ns : List Trit) → (length ws ≡ length ns → ⊥) → covers ws ns ≡ false
covers-unlike [] [] d = absurd (d refl)
covers-unlike [] (n ∷ ns) d = refl
covers-unlike (w ∷ ws) [] d = refl
covers-unlike (w ∷ ws) (n ∷ ns) d =
    and_right (is_unknown w || same w n) (covers ws ns) (covers-unlike ws ns (λ e. d (omega arith)))

-- the test as the code makes it, on words that are those of the lists
pub covers-then : (ws ns : List Trit) (wf wv nf nv : ℕ)
    → wf ≡ fixed_word ws → wv ≡ value_word ws → nf ≡ fixed_word ns → nv ≡ value_word ns
    → length ws ≡ length ns → nat_eq (bit_and wf nf) wf ≡ true → nat_eq (bit_and wf nv) wv ≡ covers ws ns
covers-then ws ns wf wv nf nv e1 e2 e3 e4 long h =
    let fixed : nat_eq (bit_and (fixed_word ws) (fixed_word ns)) (fixed_word ws) ≡ true = rw (← e1, ← e3) h in
    rw (e1, e2, e4)
    (sym (ap (λ b. b && nat_eq (bit_and (fixed_word ws) (value_word ns)) (value_word ws)) fixed) ∙ covers-words ws ns long)

pub covers-else : (ws ns : List Trit) (wf nf : ℕ)
    → wf ≡ fixed_word ws → nf ≡ fixed_word ns
    → length ws ≡ length ns → nat_eq (bit_and wf nf) wf ≡ false → false ≡ covers ws ns
covers-else ws ns wf nf e1 e3 long h =
    let fixed : nat_eq (bit_and (fixed_word ws) (fixed_word ns)) (fixed_word ws) ≡ false = rw (← e1, ← e3) h in
    sym (ap (λ b. b && nat_eq (bit_and (fixed_word ws) (value_word ns)) (value_word ws)) fixed) ∙ covers-words ws ns long
