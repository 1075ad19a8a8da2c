-- The sections of a text by its next token.
use Rattle.std.proofs.Common.{◌≡◌, ℕ, suc, ◌+◌, ◌-◌, ◌≤◌, ◌<◌, ◌⊎◌, inl, inr, Bool, true, false, if◌then◌else◌, List, [], ◌∷◌}
use Rattle.std.proofs.Common.{length, take, drop, slice_range, refl, sym, ap, subst, ◌∙◌, arith}
use Rattle.std.proofs.lemmas.List.{drop_all}
use Rattle.lexer.specs.declared.span.Span.{Span}
use Rattle.driver_sections.specs.Fronts.{behind_gap, IsNext, HasNoNext, tokens_at}
use Rattle.driver_sections.specs.Marks.{Vocabulary, Marks, are_next}
use Rattle.driver_sections.specs.Sections.{section_length, begins_section, at_token, at_front, sections_from}
use Rattle.driver_sections.proofs.Gaps.{cons}
use Rattle.driver_sections.proofs.Walks as walks
use Rattle.driver_sections.proofs.NextTokens.{from_token}

module _ (v : Vocabulary) (m : Marks) where
  over : (flag : Bool) (at n b : ℕ) (bs : List ℕ)
      → sections_from v m flag at (suc n) (b ∷ bs) ≡ sections_from v m flag (at + 1) n bs
  over flag at n b bs = refl

  behind : (flag : Bool) (at n b : ℕ) (bs : List ℕ) → v.lexis.separator_length (b ∷ bs) ≡ suc n →
      sections_from v m flag at 0 (b ∷ bs) ≡ sections_from v m flag (at + 1) n bs
  behind flag at n b bs e =
      ap (λ (k : ℕ). at_front v m flag at (b ∷ bs) (λ set i. sections_from v m set (at + 1) i bs) k
      (v.lexis.token_length flag (b ∷ bs))) e

  nothing : (flag : Bool) (at to n : ℕ) → sections_from v m flag at n [] ≡ sections_from v m flag to 0 []
  nothing flag at to n = refl

  passed : (flag : Bool) (text : List ℕ) (n at : ℕ) → at + n ≤ length text →
      sections_from v m flag at n (drop at text) ≡ sections_from v m flag (at + n) 0 (drop (at + n) text)
  passed flag text n at h = walks.passed v.lexis (sections_from v m flag) (over flag) (behind flag) (nothing flag) text n at h

  at_next : (flag : Bool) (text : List ℕ) (from : ℕ) →
      sections_from v m flag from 0 (drop from text) ≡ sections_from v m flag (behind_gap v.lexis text from) 0
      (drop (behind_gap v.lexis text from) text)
  at_next flag text from = walks.to_next v.lexis (sections_from v m flag) (over flag) (behind flag) (nothing flag) text from

  front : (flag : Bool) (text : List ℕ) (at : ℕ) → at < length text →
      sections_from v m flag at 0 (drop at text) ≡
      at_front v m flag at (drop at text) (λ set n. sections_from v m set (at + 1) n (drop (at + 1) text))
      (v.lexis.separator_length (drop at text)) (v.lexis.token_length flag (drop at text))
  front flag text at h =
      subst (λ (s : List ℕ). sections_from v m flag at 0 s ≡ at_front v m flag at s
      (λ set n. sections_from v m set (at + 1) n (drop (at + 1) text)) (v.lexis.separator_length s)
      (v.lexis.token_length flag s))
      (sym (cons text at h)) refl

  -- a token of so many bytes stands at an offset
  token_front : (flag : Bool) (text : List ℕ) (at n : ℕ) → at < length text → v.lexis.separator_length (drop at text) ≡ 0
      → v.lexis.token_length flag (drop at text) ≡ suc n →
      sections_from v m flag at 0 (drop at text) ≡ at_token v m flag at (drop at text)
      (λ set i. sections_from v m set (at + 1) i (drop (at + 1) text)) n
  token_front flag text at n h e f =
      front flag text at h
      ∙ ap (λ (k : ℕ). at_front v m flag at (drop at text) (λ set i. sections_from v m set (at + 1) i (drop (at + 1) text)) k
      (v.lexis.token_length flag (drop at text))) e
      ∙ ap (λ (k : ℕ). at_front v m flag at (drop at text) (λ set i. sections_from v m set (at + 1) i (drop (at + 1) text)) 0 k) f

  -- the bytes behind the first of so many
  behind_first : (flag : Bool) (text : List ℕ) (at n to : ℕ) → at + n ≡ to → 0 < n → to ≤ length text →
      sections_from v m flag (at + 1) (n - 1) (drop (at + 1) text) ≡ sections_from v m flag to 0 (drop to text)
  behind_first flag text at n to e z h =
      let k : at + 1 + (n - 1) ≡ to = omega (arith, e, z) in
      passed flag text (n - 1) (at + 1) (omega (arith, k, h)) ∙ ap (λ (i : ℕ). sections_from v m flag i 0 (drop i text)) k

  module _ (flag : Bool) (text : List ℕ) (from : ℕ) (t : Span) (next : IsNext v.lexis flag text from t) where
    size : v.lexis.token_length flag (drop t.at text) ≡ suc (t.end - t.at - 1)
    size = let s : t.end ≡ t.at + v.lexis.token_length flag (drop t.at text) = next.size in let k : t.at < t.end = next.some
        in omega (arith, s, k)

    inside : t.at < length text
    inside = let k : t.at < t.end = next.some in let w : t.end ≤ length text = next.within in omega (arith, k, w)

    begun : begins_section v m flag t.at (drop t.at text) ≡ are_next v.is_same m.beginning (tokens_at v.lexis flag text t)
    begun = ap (are_next v.is_same m.beginning) (from_token v.lexis flag text from t next)

    at_this : sections_from v m flag from 0 (drop from text) ≡
        at_token v m flag t.at (drop t.at text) (λ set i. sections_from v m set (t.at + 1) i (drop (t.at + 1) text))
        (t.end - t.at - 1)
    at_this =
        at_next flag text from ∙ ap (λ (i : ℕ). sections_from v m flag i 0 (drop i text)) (sym next.place)
        ∙ token_front flag text t.at (t.end - t.at - 1) inside next.alone size

    abbrev chosen : Bool → List Span
    chosen b =
        if b
        then record { at = t.at; end = t.at + section_length v m (drop t.at text) } ∷ sections_from v m flag (t.at + 1)
        (section_length v m (drop t.at text) - 1) (drop (t.at + 1) text)
        else sections_from v m (v.lexis.flag_after flag (take (suc (t.end - t.at - 1)) (drop t.at text))) (t.at + 1)
        (t.end - t.at - 1) (drop (t.at + 1) text)

    -- the next token begins a section of so many bytes
    pub with_section : are_next v.is_same m.beginning (tokens_at v.lexis flag text t) ≡ true → (n : ℕ)
        → n ≡ section_length v m (drop t.at text) → 0 < n → t.at + n ≤ length text →
        sections_from v m flag from 0 (drop from text) ≡ record { at = t.at; end = t.at + n } ∷ sections_from v m flag
        (t.at + n) 0 (drop (t.at + n) text)
    with_section e n f z h =
        at_this ∙ ap chosen (begun ∙ e)
        ∙ sym (ap (λ (k : ℕ). record { at = t.at; end = t.at + k } ∷ sections_from v m flag (t.at + 1) (k - 1)
        (drop (t.at + 1) text)) f)
        ∙ ap (λ (found : List Span). record { at = t.at; end = t.at + n } ∷ found)
        (behind_first flag text t.at n (t.at + n) refl z h)

    -- the next token begins none
    pub with_token : are_next v.is_same m.beginning (tokens_at v.lexis flag text t) ≡ false →
        sections_from v m flag from 0 (drop from text) ≡ sections_from v m (v.lexis.flag_after flag (slice_range text t.at t.end))
        t.end 0 (drop t.end text)
    with_token e =
        let k : t.at < t.end = next.some in
        let s : suc (t.end - t.at - 1) ≡ t.end - t.at = omega (arith, k) in
        let w : t.end ≤ length text = next.within in
        let j : t.at + (t.end - t.at) ≡ t.end = omega (arith, k) in
        at_this ∙ ap chosen (begun ∙ e)
        ∙ ap (λ (i : ℕ). sections_from v m (v.lexis.flag_after flag (take i (drop t.at text))) (t.at + 1) (t.end - t.at - 1)
        (drop (t.at + 1) text)) s
        ∙ behind_first (v.lexis.flag_after flag (slice_range text t.at t.end)) text t.at (t.end - t.at) t.end j
        (omega (arith, k)) w

  none_at : (flag : Bool) (text : List ℕ) (at : ℕ) →
      (length text ≤ at) ⊎ ((v.lexis.separator_length (drop at text) ≡ 0) × (v.lexis.token_length flag (drop at text) ≡ 0)) →
      sections_from v m flag at 0 (drop at text) ≡ []
  none_at flag text at (inl h) = ap (sections_from v m flag at 0) (drop_all at text h)
  none_at flag text at (inr (e, f)) = by (drop at text) e f
    where
      by : (s : List ℕ) → v.lexis.separator_length s ≡ 0 → v.lexis.token_length flag s ≡ 0 → sections_from v m flag at 0 s ≡ []
      by [] g h = refl
      by (b ∷ bs) g h = rw (g, h) refl

  -- no token stands from an offset on
  pub without_token : (flag : Bool) (text : List ℕ) (from : ℕ) → HasNoNext v.lexis flag text from
      → sections_from v m flag from 0 (drop from text) ≡ []
  without_token flag text from h = at_next flag text from ∙ none_at flag text (behind_gap v.lexis text from) h
