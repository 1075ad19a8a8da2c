-- Functions that go over the bytes of a text from left to right, separator by separator.
use Rattle.std.proofs.Common.{◌≡◌, ℕ, zero, suc, ◌+◌, ◌≤◌, List, [], ◌∷◌, length, drop, refl, ap, ◌∙◌, arith}
use Rattle.lexer.specs.Tokens.{Lexis}
use Rattle.driver_sections.specs.Fronts.{in_gap, gap_length, behind_gap}
use Rattle.driver_sections.proofs.Gaps.{cons, dropped_twice}

-- A function of an offset, of how many bytes from there on belong to what stands before, and of the bytes from there on: it
-- passes over those, and over a separator.
module _ {R : Type 0} (l : Lexis) (f : ℕ → ℕ → List ℕ → R)
    (over : (at n b : ℕ) (bs : List ℕ) → f at (suc n) (b ∷ bs) ≡ f (at + 1) n bs)
    (behind : (at n b : ℕ) (bs : List ℕ) → l.separator_length (b ∷ bs) ≡ suc n → f at 0 (b ∷ bs) ≡ f (at + 1) n bs)
    (nothing : (at to n : ℕ) → f at n [] ≡ f to 0 []) where
  -- behind bytes that belong to what stands before
  pub passed : (text : List ℕ) (n at : ℕ) → at + n ≤ length text → f at n (drop at text) ≡ f (at + n) 0 (drop (at + n) text)
  passed text zero at h = let e : at ≡ at + 0 = omega arith in ap (λ (m : ℕ). f m 0 (drop m text)) e
  passed text (suc n) at h =
      let e : at + 1 + n ≡ at + suc n = omega arith in
      ap (f at (suc n)) (cons text at (omega (arith, h)))
      ∙ over at n _ (drop (at + 1) text)
      ∙ passed text n (at + 1) (omega (arith, h)) ∙ ap (λ (m : ℕ). f m 0 (drop m text)) e

  -- one byte and those behind it
  behind_one : (b : ℕ) (bs : List ℕ) (at n : ℕ) →
      f (at + 1 + gap_length l n bs) 0 (drop (gap_length l n bs) bs) ≡ f (at + (1 + gap_length l n bs)) 0
      (drop (1 + gap_length l n bs) (b ∷ bs))
  behind_one b bs at n =
      let e : at + 1 + gap_length l n bs ≡ at + (1 + gap_length l n bs) = omega arith in
      let d : suc (gap_length l n bs) ≡ 1 + gap_length l n bs = omega arith in
      ap (λ (m : ℕ). f m 0 (drop (gap_length l n bs) bs)) e
      ∙ ap (λ (m : ℕ). f (at + (1 + gap_length l n bs)) 0 (drop m (b ∷ bs))) d

  -- behind the separators that stand at the front of these bytes, if it is so of those behind the first
  front_gap : (b : ℕ) (bs : List ℕ) (at m : ℕ) → l.separator_length (b ∷ bs) ≡ m →
      ((n : ℕ) → f (at + 1) n bs ≡ f (at + 1 + gap_length l n bs) 0 (drop (gap_length l n bs) bs)) →
      f at 0 (b ∷ bs) ≡ f (at + in_gap (λ n. 1 + gap_length l n bs) m) 0 (drop (in_gap (λ n. 1 + gap_length l n bs) m) (b ∷ bs))
  front_gap b bs at zero h go = let e : at ≡ at + 0 = omega arith in ap (λ (m : ℕ). f m 0 (b ∷ bs)) e
  front_gap b bs at (suc n) h go = behind at n b bs h ∙ go n ∙ behind_one b bs at n

  -- behind separators
  over_gap : (bs : List ℕ) (at n : ℕ) → f at n bs ≡ f (at + gap_length l n bs) 0 (drop (gap_length l n bs) bs)
  over_gap [] at n = nothing at (at + 0) n
  over_gap (b ∷ bs) at (suc n) = over at n b bs ∙ over_gap bs (at + 1) n ∙ behind_one b bs at n
  over_gap (b ∷ bs) at zero = front_gap b bs at (l.separator_length (b ∷ bs)) refl (over_gap bs (at + 1))

  -- where the next token stands
  pub to_next : (text : List ℕ) (from : ℕ)
      → f from 0 (drop from text) ≡ f (behind_gap l text from) 0 (drop (behind_gap l text from) text)
  to_next text from =
      over_gap (drop from text) from 0
      ∙ ap (f (behind_gap l text from) 0) (dropped_twice text from (gap_length l 0 (drop from text)))
