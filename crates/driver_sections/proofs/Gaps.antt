-- Separators one behind the other.
use Rattle.std.proofs.Common.{◌≡◌, ℕ, zero, suc, ◌+◌, ◌≤◌, ◌<◌, List, ◌∷◌, length, drop, get_or, refl, sym, ap, subst, ◌∙◌, arith}
use Rattle.std.proofs.Common.{add-one, drop-cons}
use Rattle.std.proofs.lemmas.List.{drop_all, drop-drop}
use Rattle.lexer.specs.Tokens.{Lexis}
use Rattle.driver_sections.specs.Fronts.{in_gap, gap_length, behind_gap}

-- the bytes from an offset on: the one there, and those behind it
pub cons : (text : List ℕ) (at : ℕ) → at < length text → drop at text ≡ get_or text at 0 ∷ drop (at + 1) text
cons text at h = rw (add-one) (drop-cons text at 0 h)

pub dropped_twice : (text : List ℕ) (m n : ℕ) → drop n (drop m text) ≡ drop (m + n) text
dropped_twice text m n = drop-drop n m text

module _ (l : Lexis) where
  gap_step : (text : List ℕ) (at n : ℕ) → at < length text
      → gap_length l (suc n) (drop at text) ≡ 1 + gap_length l n (drop (at + 1) text)
  gap_step text at n h = ap (gap_length l (suc n)) (cons text at h)

  -- behind bytes that belong to a separator
  passed : (text : List ℕ) (n at : ℕ) → at + n ≤ length text
      → gap_length l n (drop at text) ≡ n + gap_length l 0 (drop (at + n) text)
  passed text zero at h =
      let e : at ≡ at + 0 = omega arith in
      let z : gap_length l 0 (drop (at + 0) text) ≡ 0 + gap_length l 0 (drop (at + 0) text) = omega arith in
      ap (λ (m : ℕ). gap_length l 0 (drop m text)) e ∙ z
  passed text (suc n) at h =
      let e : at + 1 + n ≡ at + suc n = omega arith in
      let f : 1 + (n + gap_length l 0 (drop (at + suc n) text)) ≡ suc n + gap_length l 0 (drop (at + suc n) text) = omega arith in
      gap_step text at n (omega (arith, h))
      ∙ ap (λ (m : ℕ). 1 + m) (passed text n (at + 1) (omega (arith, h)) ∙ ap (λ (m : ℕ). n + gap_length l 0 (drop m text)) e) ∙ f

  front : (text : List ℕ) (at : ℕ) → at < length text →
      gap_length l 0 (drop at text) ≡ in_gap (λ n. 1 + gap_length l n (drop (at + 1) text)) (l.separator_length (drop at text))
  front text at h =
      subst (λ (s : List ℕ). gap_length l 0 s ≡ in_gap (λ n. 1 + gap_length l n (drop (at + 1) text)) (l.separator_length s))
      (sym (cons text at h)) refl

  -- a separator of so many bytes stands next
  pub one_more : (text : List ℕ) (at n : ℕ) → at + n ≤ length text → 0 < n → n ≡ l.separator_length (drop at text) →
      behind_gap l text (at + n) ≡ behind_gap l text at
  one_more text at zero h z e = absurd (omega arith)
  one_more text at (suc n) h z e =
      let d : at + 1 + n ≡ at + suc n = omega arith in
      let g : gap_length l 0 (drop at text) ≡ 1 + (n + gap_length l 0 (drop (at + suc n) text)) =
      front text at (omega (arith, h)) ∙ ap (in_gap (λ i. 1 + gap_length l i (drop (at + 1) text))) (sym e)
      ∙ ap (λ (m : ℕ). 1 + m) (passed text n (at + 1) (omega (arith, h)) ∙ ap (λ (m : ℕ). n + gap_length l 0 (drop m text)) d) in
      omega (arith, g)

  -- no separator stands next
  pub no_more : (text : List ℕ) (at : ℕ) → at < length text → l.separator_length (drop at text) ≡ 0 → behind_gap l text at ≡ at
  no_more text at h e =
      let g : gap_length l 0 (drop at text) ≡ 0 = front text at h ∙ ap (in_gap (λ i. 1 + gap_length l i (drop (at + 1) text))) e
      in
      omega (arith, g)

  -- the text ends
  pub ended : (text : List ℕ) (at : ℕ) → length text ≤ at → behind_gap l text at ≡ at
  ended text at h =
      let g : gap_length l 0 (drop at text) ≡ 0 = ap (gap_length l 0) (drop_all at text h) in
      omega (arith, g)
