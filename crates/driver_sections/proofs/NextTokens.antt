-- The tokens of a text by the next one.
use Rattle.std.proofs.Common.{◌≡◌, ℕ, zero, suc, ◌+◌, ◌-◌, ◌≤◌, ◌<◌, ◌⊎◌, inl, inr, Bool, List, [], ◌∷◌, length, take, drop}
use Rattle.std.proofs.Common.{Option, refl, sym, ap, subst, ◌∙◌, arith}
use Rattle.std.proofs.lemmas.List.{drop_all}
use Rattle.lexer.specs.Tokens.{Token, Lexis, scan, at_front, after}
use Rattle.lexer.specs.declared.span.Span.{Span}
use Rattle.lexer.specs.Spans.{token_of}
use Rattle.driver_sections.specs.Fronts.{behind_gap, IsNext, HasNoNext, tokens_from, tokens_at}
use Rattle.driver_sections.proofs.Gaps.{cons}
use Rattle.driver_sections.proofs.Walks.{passed, to_next}

module _ (l : Lexis) where
  over : (flag : Bool) (at n b : ℕ) (bs : List ℕ) → scan l flag at (suc n) (b ∷ bs) ≡ scan l flag (at + 1) n bs
  over flag at n b bs = refl

  behind : (flag : Bool) (at n b : ℕ) (bs : List ℕ) → l.separator_length (b ∷ bs) ≡ suc n
      → scan l flag at 0 (b ∷ bs) ≡ scan l flag (at + 1) n bs
  behind flag at n b bs e =
      ap (λ (m : ℕ). at_front l flag at (b ∷ bs) (λ set i. scan l set (at + 1) i bs) m (l.token_length flag (b ∷ bs))) e

  nothing : (flag : Bool) (at to n : ℕ) → scan l flag at n [] ≡ scan l flag to 0 []
  nothing flag at to n = refl

  front : (flag : Bool) (text : List ℕ) (at : ℕ) → at < length text →
      scan l flag at 0 (drop at text) ≡
      at_front l flag at (drop at text) (λ set n. scan l set (at + 1) n (drop (at + 1) text)) (l.separator_length (drop at text))
      (l.token_length flag (drop at text))
  front flag text at h =
      subst (λ (s : List ℕ). scan l flag at 0 s ≡ at_front l flag at s (λ set n. scan l set (at + 1) n (drop (at + 1) text))
      (l.separator_length s) (l.token_length flag s))
      (sym (cons text at h)) refl

  -- a token of so many bytes stands at an offset
  token_front : (flag : Bool) (text : List ℕ) (at n : ℕ) → at + n ≤ length text → 0 < n → l.separator_length (drop at text) ≡ 0 →
      l.token_length flag (drop at text) ≡ n →
      scan l flag at 0 (drop at text) ≡
      after (record { at = at; bytes = take n (drop at text) })
      (scan l (l.flag_after flag (take n (drop at text))) (at + n) 0 (drop (at + n) text))
  token_front flag text at zero h z e f = absurd (omega arith)
  token_front flag text at (suc n) h z e f =
      let d : at + 1 + n ≡ at + suc n = omega arith in
      let set : Bool = l.flag_after flag (take (suc n) (drop at text)) in
      front flag text at (omega (arith, h))
      ∙ ap (λ (m : ℕ). at_front l flag at (drop at text) (λ o i. scan l o (at + 1) i (drop (at + 1) text)) m
      (l.token_length flag (drop at text))) e
      ∙ ap (λ (m : ℕ). at_front l flag at (drop at text) (λ o i. scan l o (at + 1) i (drop (at + 1) text)) 0 m) f
      ∙ ap (after (record { at = at; bytes = take (suc n) (drop at text) }))
      (passed l (scan l set) (over set) (behind set) (nothing set) text n (at + 1) (omega (arith, h))
      ∙ ap (λ (m : ℕ). scan l set m 0 (drop m text)) d)

  pub at_next : (flag : Bool) (text : List ℕ) (from : ℕ)
      → scan l flag from 0 (drop from text) ≡ scan l flag (behind_gap l text from) 0 (drop (behind_gap l text from) text)
  at_next flag text from = to_next l (scan l flag) (over flag) (behind flag) (nothing flag) text from

  behind_pair : (t : Token) (r : List Token × Option ℕ) → (after t r).0 ≡ t ∷ r.0
  behind_pair t (ts, f) = refl

  -- the tokens from the place of the next one on
  pub from_token : (flag : Bool) (text : List ℕ) (from : ℕ) (t : Span) → IsNext l flag text from t
      → tokens_from l flag text t.at ≡ tokens_at l flag text t
  from_token flag text from t next =
      let n : ℕ = t.end - t.at in
      let some : t.at < t.end = next.some in
      let within : t.end ≤ length text = next.within in
      let size : t.end ≡ t.at + l.token_length flag (drop t.at text) = next.size in
      let e : t.at + n ≡ t.end = omega (arith, some) in
      let f : l.token_length flag (drop t.at text) ≡ n = omega (arith, size) in
      let set : Bool = l.flag_after flag (take n (drop t.at text)) in
      ap (λ (r : List Token × Option ℕ). r.0)
      (token_front flag text t.at n (omega (arith, e, within)) (omega (arith, some)) next.alone f)
      ∙ behind_pair (token_of text t) (scan l set (t.at + n) 0 (drop (t.at + n) text))
      ∙ ap (λ (m : ℕ). token_of text t ∷ (scan l set m 0 (drop m text)).0) e

  -- the tokens from an offset on, by the next one
  pub with_next : (flag : Bool) (text : List ℕ) (from : ℕ) (t : Span) → IsNext l flag text from t
      → tokens_from l flag text from ≡ tokens_at l flag text t
  with_next flag text from t next =
      ap (λ (r : List Token × Option ℕ). r.0) (at_next flag text from)
      ∙ ap (tokens_from l flag text) (sym next.place) ∙ from_token flag text from t next

  none_at : (flag : Bool) (text : List ℕ) (at : ℕ) → (length text ≤ at)
      ⊎ ((l.separator_length (drop at text) ≡ 0) × (l.token_length flag (drop at text) ≡ 0)) →
      tokens_from l flag text at ≡ []
  none_at flag text at (inl h) = ap (λ (s : List ℕ). (scan l flag at 0 s).0) (drop_all at text h)
  none_at flag text at (inr (e, f)) = by (drop at text) e f
    where
      by : (s : List ℕ) → l.separator_length s ≡ 0 → l.token_length flag s ≡ 0 → (scan l flag at 0 s).0 ≡ []
      by [] g h = refl
      by (b ∷ bs) g h = rw (g, h) refl

  -- no tokens from an offset on
  pub without_next : (flag : Bool) (text : List ℕ) (from : ℕ) → HasNoNext l flag text from → tokens_from l flag text from ≡ []
  without_next flag text from h =
      ap (λ (r : List Token × Option ℕ). r.0) (at_next flag text from) ∙ none_at flag text (behind_gap l text from) h
