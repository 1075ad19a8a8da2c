-- Masks of rows: their size, their bits, and the first row of a mask.
use Rattle.std.proofs.Common.{◌≡◌, ◌≢◌, ℕ, zero, suc, ◌+◌, ◌*◌, ◌/◌, ◌^◌, ◌<◌, ◌≤◌, Bool, true, false, not, ◌&&◌}
use Rattle.std.proofs.Common.{bit_and, cond, List, [], ◌∷◌, length, drop, slice_get, Some, None, refl, sym, ◌∙◌, ap, subst}
use Rattle.std.proofs.Common.{inl, inr, arith, pow-suc, w64, length-drop}
use Rattle.std.specs.Prelude.{All}
use Rattle.std.specs.Option.{option_map_or}
use Rattle.std.specs.Int.{bit_at, trailing_zeros}
use Rattle.std.proofs.Math.Pow.{pow_mono}
use Rattle.std.proofs.lemmas.Bool.{cases_Bool, cases_eq, eq-eqb, ne_eqb}
use Rattle.std.proofs.lemmas.Nat.Bits.{bit_at-suc, bit_at_lowest, bit_at-zero, bit_at-trailing_zeros}
use Rattle.trit_cubes.proofs.WordLemmas.{and-blocks}
use Rattle.udp_tables.specs.Tables.{first}
use Rattle.row_masks.specs.Masks.{bit, row_mask, first_row, deciding, by_number}

pub bit-below : (b : Bool) → bit b < 2
bit-below false = omega arith
bit-below true = omega arith

pub row_mask-below : {R : Type 0} (f : R → Bool) (rows : List R) → row_mask f rows < 2 ^ length rows
row_mask-below f [] = omega arith
row_mask-below f (row ∷ rows) = rw pow-suc (omega (arith, bit-below (f row), row_mask-below f rows))

-- masks of few rows are words
pub row_mask-fits : {R : Type 0} (f : R → Bool) (rows : List R) (n : ℕ) → length rows ≤ n → row_mask f rows < 2 ^ n
row_mask-fits f rows n few = let most : 2 ^ length rows ≤ 2 ^ n = pow_mono few in omega (arith, row_mask-below f rows)

-- there is room for one row more
pub mask-room : {R : Type 0} (f : R → Bool) (rows : List R) {left m : ℕ} → 0 < left → length rows ≤ 64 → left ≤ length rows
    → m ≡ row_mask f (drop left rows) → m < 2 ^ 63
mask-room f rows {left = left} some few within m-is =
    subst (λ v. v < 2 ^ 63) (sym m-is) (row_mask-fits f (drop left rows) 63 (omega (arith, length-drop left rows)))

-- the mask of the rows that pass two tests
bit-and : (a b : Bool) → bit_and (bit a) (bit b) ≡ bit (a && b)
bit-and false false = refl
bit-and false true = refl
bit-and true false = refl
bit-and true true = refl

pub mask-and : {R : Type 0} (f g : R → Bool) (rows : List R)
    → bit_and (row_mask f rows) (row_mask g rows) ≡ row_mask (λ row. f row && g row) rows
mask-and f g [] = refl
mask-and f g (row ∷ rows) =
    and-blocks 1 (bit (f row)) (bit (g row)) (row_mask f rows) (row_mask g rows) (bit-below (f row)) (bit-below (g row))
    ∙ (λ i. bit-and (f row) (g row) i + 2 * mask-and f g rows i)

-- tests that the same rows pass have the same mask
pub mask-same : {R : Type 0} (f g : R → Bool) (rows : List R) → All (λ row. f row ≡ g row) rows → row_mask f rows ≡ row_mask g rows
mask-same f g [] same = refl
mask-same f g (row ∷ rows) same =
    (λ i. bit (same 0 row (omega arith) i) + 2 * mask-same f g rows (λ k d l. same (suc k) d (omega arith)) i)

-- where no row passes
pub none-first : {R V : Type 0} (f : R → Bool) (value : R → V) (rows : List R) (o : V) → row_mask f rows ≡ 0
    → first f value rows o ≡ o
none-first f value [] o none = refl
none-first f value (row ∷ rows) o none =
    elim (cases_Bool (f row)) [
      | inl h ↦ absurd (let one : bit (f row) ≡ 1 = ap bit h in omega arith)
      | inr h ↦ rw h (none-first f value rows o (omega arith))
    ]

-- the first row that passes has the lowest bit
first-at : {R V : Type 0} (f : R → Bool) (value : R → V) (rows : List R) (o other : V) (t : ℕ)
    → bit_at (row_mask f rows) t ≡ 1 → ((i : ℕ) → i < t → bit_at (row_mask f rows) i ≡ 0)
    → first f value rows o ≡ option_map_or value (slice_get rows t) other
first-at f value [] o other t one below = absurd (let none = bit_at-zero t in omega arith)
first-at f value (row ∷ rows) o other zero one below =
    elim (cases_Bool (f row)) [
      | inl h ↦ rw h refl
      | inr h ↦
          let none : bit (f row) ≡ 0 = ap bit h in
          let low = bit_at_lowest (bit (f row) + 2 * row_mask f rows) in
          absurd (omega arith)
    ]
first-at f value (row ∷ rows) o other (suc t) one below =
    let half : (bit (f row) + 2 * row_mask f rows) / 2 ≡ row_mask f rows = omega (arith, bit-below (f row)) in
    let next : (i : ℕ) → bit_at (bit (f row) + 2 * row_mask f rows) (suc i) ≡ bit_at (row_mask f rows) i
    = λ i. bit_at-suc (bit (f row) + 2 * row_mask f rows) i ∙ ap (λ m. bit_at m i) half in
    elim (cases_Bool (f row)) [
      | inl h ↦
          let some : bit (f row) ≡ 1 = ap bit h in
          let low = bit_at_lowest (bit (f row) + 2 * row_mask f rows) in
          let none = below 0 (omega arith) in
          absurd (omega arith)
      | inr h ↦ rw h (first-at f value rows o other t (sym (next t) ∙ one) (λ i l. sym (next i) ∙ below (suc i) (omega arith)))
    ]

-- the first row that passes, where some row does, is the first of the mask
pub first-some : {R V : Type 0} (f : R → Bool) (value : R → V) (rows : List R) (o other : V) → length rows ≤ 64
    → row_mask f rows ≢ 0 → first f value rows o ≡ by_number value rows other (first_row (row_mask f rows))
first-some f value rows o other few some =
    let lowest = bit_at-trailing_zeros w64 (row_mask f rows) (omega arith) (row_mask-fits f rows 64 few) in
    first-at f value rows o other (trailing_zeros w64 (row_mask f rows)) lowest.1 lowest.2
    ∙ ap (by_number value rows other)
    (ap (λ b. cond b None (Some (trailing_zeros w64 (row_mask f rows)))) (sym (ne_eqb (row_mask f rows) 0 some)))

-- the first row that passes is the first of the mask
pub first-by : {R V : Type 0} (f : R → Bool) (value : R → V) (rows : List R) (o : V) → length rows ≤ 64
    → first f value rows o ≡ by_number value rows o (first_row (row_mask f rows))
first-by f value rows o few =
    elim (cases_eq (row_mask f rows) 0) [
      | inl none ↦
          none-first f value rows o none
          ∙ ap (by_number value rows o)
          (ap (λ b. cond b None (Some (trailing_zeros w64 (row_mask f rows)))) (sym (eq-eqb (row_mask f rows) 0 none)))
      | inr some ↦ first-some f value rows o o few some
    ]

pub and-swapped : (a b : Bool) → (a && b) ≡ (b && a)
and-swapped true true = refl
and-swapped true false = refl
and-swapped false true = refl
and-swapped false false = refl

-- where no row passes that decides first, the others are all that pass
others-first : {R V : Type 0} (p f : R → Bool) (value : R → V) (rows : List R) (o : V)
    → row_mask (λ row. f row && p row) rows ≡ 0 → first (λ row. not (p row) && f row) value rows o ≡ first f value rows o
others-first p f value [] o none = refl
others-first p f value (row ∷ rows) o none =
    let rest = others-first p f value rows o (omega arith) in
    elim (cases_Bool (p row)) [
      | inl h ↦
          elim (cases_Bool (f row)) [
            | inl k ↦
                let some : bit (f row && p row) ≡ 1 = (λ i. bit (k i && h i)) in
                absurd (omega arith)
            | inr k ↦ rw (h, k) rest
          ]
      | inr h ↦ rw h (ap (cond (f row) (value row)) rest)
    ]

-- Of the rows of a mask those that decide first go before the others.
pub deciding-first : {R V : Type 0} (p f : R → Bool) (value : R → V) (rows : List R) (o : V) → length rows ≤ 64
    → first (λ row. p row && f row) value rows (first (λ row. not (p row) && f row) value rows o)
    ≡ by_number value rows o (first_row (deciding (row_mask f rows) (row_mask p rows)))
deciding-first p f value rows o few =
    let both = mask-and f p rows in
    let rest = first (λ row. not (p row) && f row) value rows o in
    (λ i. first (λ row. and-swapped (p row) (f row) i) value rows rest)
    ∙ elim (cases_eq (row_mask (λ row. f row && p row) rows) 0) [
      | inl none ↦
          none-first (λ row. f row && p row) value rows rest none
          ∙ others-first p f value rows o none
          ∙ first-by f value rows o few
          ∙ ap (λ m. by_number value rows o (first_row m))
          (ap (λ b. cond b (row_mask f rows) (bit_and (row_mask f rows) (row_mask p rows))) (sym (eq-eqb _ 0 (both ∙ none))))
      | inr some ↦
          first-some (λ row. f row && p row) value rows rest o few some
          ∙ ap (λ m. by_number value rows o (first_row m))
          (sym both ∙ ap (λ b. cond b (row_mask f rows) (bit_and (row_mask f rows) (row_mask p rows)))
          (sym (ne_eqb _ 0 (λ e. some (sym both ∙ e)))))
    ]
