-- How a scan goes on from one offset to the next.
use Rattle.std.proofs.Common.{◌≡◌, ℕ, zero, suc, ◌+◌, ◌-◌, ◌≤◌, ◌<◌, Bool, List, [], ◌∷◌, ◌++◌, length, take, drop, get_or}
use Rattle.std.proofs.Common.{Option, Some, None, true, refl, sym, ap, subst, ◌∙◌, arith, add-one, drop-cons, append_assoc}
use Rattle.std.proofs.Common.{length-drop}
use Rattle.std.proofs.lemmas.List.{map-append, append-nil, drop_all}
use Rattle.std.specs.List.{prefix_len}
use Rattle.lexer.specs.Tokens.{Token, Lexis, is_blank, scan, at_front, after}
use Rattle.lexer.specs.declared.span.Span.{Span}
use Rattle.lexer.specs.Spans.{LieInside, token_of, tokens_of, after_tokens, from_here}
use Rattle.lexer.proofs.Alike.{more}
use Rattle.lexer.proofs.Runs.{run_at}

-- the bytes from an offset on: the one there, and those behind it
cons : (text : List ℕ) (at : ℕ) → at < length text → drop at text ≡ get_or text at 0 ∷ drop (at + 1) text
cons text at h = rw (add-one) (drop-cons text at 0 h)

joined : (before : List Token) (t : Token) (r : List Token × Option ℕ)
    → after_tokens (before ++ t ∷ []) r ≡ after_tokens before (after t r)
joined before t (ts, f) = ap (λ (us : List Token). (us, f)) (append_assoc before (t ∷ []) ts)

-- one more place inside the text
pub inside_more : (text : List ℕ) (spans : List Span) (s : Span) → LieInside text spans → s.at ≤ s.end → s.end ≤ length text
    → LieInside text (spans ++ s ∷ [])
inside_more text [] s h a b = (a, b, tt)
inside_more text (x ∷ spans) s h a b = (h.0, h.1, inside_more text spans s h.2 a b)

module _ (l : Lexis) where
  scan_step : (t : Bool) (at n : ℕ) (text : List ℕ) → at < length text
      → scan l t at (suc n) (drop at text) ≡ scan l t (at + 1) n (drop (at + 1) text)
  scan_step t at n text h = ap (scan l t at (suc n)) (cons text at h)

  scan_front : (t : Bool) (at : ℕ) (text : List ℕ) → at < length text →
      scan l t at 0 (drop at text) ≡
      at_front l t at (drop at text) (λ o n. scan l o (at + 1) n (drop (at + 1) text)) (l.separator_length (drop at text))
      (l.token_length t (drop at text))
  scan_front t at text h = subst (λ (s : List ℕ). scan l t at 0 s ≡ at_front l t at s
      (λ o n. scan l o (at + 1) n (drop (at + 1) text)) (l.separator_length s) (l.token_length t s)) (sym (cons text at h)) refl

  -- an offset inside a separator or a token
  pub inside : (text : List ℕ) (spans : List Span) (t : Bool) (next at : ℕ) → at < length text → at < next →
      from_here l text spans t next (at + 1) ≡ from_here l text spans t next at
  inside text spans t next at h k =
      let e : next - at ≡ suc (next - (at + 1)) = omega arith in
      ap (after_tokens (tokens_of text spans))
      (sym (ap (λ (n : ℕ). scan l t at n (drop at text)) e ∙ scan_step t at (next - (at + 1)) text h))

  -- the bytes before the place where the next token may begin are passed over
  passed : (text : List ℕ) (spans : List Span) (t : Bool) (n at : ℕ) → at + n ≤ length text
      → from_here l text spans t (at + n) at ≡ from_here l text spans t (at + n) (at + n)
  passed text spans t zero at h = let e : at ≡ at + 0 = omega arith in ap (from_here l text spans t (at + 0)) e
  passed text spans t (suc n) at h =
      let e : at + 1 + n ≡ at + suc n = omega arith in
      sym (inside text spans t (at + suc n) at (omega (arith, h)) (omega arith))
      ∙ subst (λ (m : ℕ). from_here l text spans t m (at + 1) ≡ from_here l text spans t m m) e
      (passed text spans t n (at + 1) (omega (arith, h)))

  -- a separator begins
  pub separator : (text : List ℕ) (spans : List Span) (t : Bool) (next at n : ℕ) → at < length text → next ≤ at → 0 < n
      → n ≡ l.separator_length (drop at text) →
      from_here l text spans t (at + n) (at + 1) ≡ from_here l text spans t next at
  separator text spans t next at zero h k z e = absurd (omega arith)
  separator text spans t next at (suc n) h k z e =
      let a : next - at ≡ 0 = omega arith in
      let b : at + suc n - (at + 1) ≡ n = omega arith in
      ap (after_tokens (tokens_of text spans))
      (ap (λ (m : ℕ). scan l t (at + 1) m (drop (at + 1) text)) b
      ∙ ap (λ (m : ℕ). at_front l t at (drop at text) (λ o i. scan l o (at + 1) i (drop (at + 1) text)) m
      (l.token_length t (drop at text))) e
      ∙ sym (ap (λ (m : ℕ). scan l t at m (drop at text)) a ∙ scan_front t at text h))

  nothing_of : (t : Bool) (at : ℕ) (text : List ℕ) → at < length text → 0 ≡ l.separator_length (drop at text) → (n : ℕ)
      → n ≡ l.token_length t (drop at text) →
      scan l t at 0 (drop at text) ≡ at_front l t at (drop at text) (λ o i. scan l o (at + 1) i (drop (at + 1) text)) 0 n
  nothing_of t at text h e n f =
      scan_front t at text h
      ∙ ap (λ (m : ℕ). at_front l t at (drop at text) (λ o i. scan l o (at + 1) i (drop (at + 1) text)) m
      (l.token_length t (drop at text))) (sym e)
      ∙ ap (λ (m : ℕ). at_front l t at (drop at text) (λ o i. scan l o (at + 1) i (drop (at + 1) text)) 0 m) (sym f)

  -- neither a separator nor a token begins
  pub fault : (text : List ℕ) (spans : List Span) (t : Bool) (next at : ℕ) → at < length text → next ≤ at →
      0 ≡ l.separator_length (drop at text) → 0 ≡ l.token_length t (drop at text) →
      from_here l text spans t next at ≡ (tokens_of text spans, Some at)
  fault text spans t next at h k e f =
      let a : next - at ≡ 0 = omega arith in
      ap (after_tokens (tokens_of text spans)) (ap (λ (m : ℕ). scan l t at m (drop at text)) a ∙ nothing_of t at text h e 0 f)
      ∙ ap (λ (ts : List Token). (ts, Some at)) (append-nil (tokens_of text spans))

  -- a token begins
  pub token : (text : List ℕ) (spans : List Span) (t : Bool) (next at n : ℕ) → at < length text → next ≤ at →
      0 ≡ l.separator_length (drop at text) → n ≡ l.token_length t (drop at text) → 0 < n →
      from_here l text (spans ++ record { at = at; end = at + n } ∷ []) (l.flag_after t (take n (drop at text))) (at + n)
      (at + 1) ≡ from_here l text spans t next at
  token text spans t next at zero h k e f z = absurd (omega arith)
  token text spans t next at (suc n) h k e f z =
      let a : next - at ≡ 0 = omega arith in
      let b : at + suc n - (at + 1) ≡ n = omega arith in
      let d : at + suc n - at ≡ suc n = omega arith in
      let o : Bool = l.flag_after t (take (suc n) (drop at text)) in
      let s : Span = record { at = at; end = at + suc n } in
      let r : List Token × Option ℕ = scan l o (at + 1) n (drop (at + 1) text) in
      ap (λ (m : ℕ). after_tokens (tokens_of text (spans ++ s ∷ [])) (scan l o (at + 1) m (drop (at + 1) text))) b
      ∙ ap (λ (ts : List Token). after_tokens ts r) (map-append (token_of text) spans (s ∷ []))
      ∙ joined (tokens_of text spans) (token_of text s) r
      ∙ ap (λ (m : ℕ). after_tokens (tokens_of text spans) (after (record { at = at; bytes = take m (drop at text) }) r)) d
      ∙ ap (after_tokens (tokens_of text spans))
      (sym (ap (λ (m : ℕ). scan l t at m (drop at text)) a ∙ nothing_of t at text h e (suc n) f))

  -- at the end of the text
  pub ended : (text : List ℕ) (spans : List Span) (t : Bool) (next at : ℕ) → length text ≤ at
      → from_here l text spans t next at ≡ (tokens_of text spans, None)
  ended text spans t next at h =
      ap (λ (s : List ℕ). after_tokens (tokens_of text spans) (scan l t at (next - at) s)) (drop_all at text h)
      ∙ ap (λ (ts : List Token). (ts, None)) (append-nil (tokens_of text spans))

  -- behind a separator
  pub behind_separator : (text : List ℕ) (spans : List Span) (t : Bool) (at n : ℕ) → at + n ≤ length text → 0 < n
      → n ≡ l.separator_length (drop at text) →
      from_here l text spans t (at + n) (at + n) ≡ from_here l text spans t at at
  behind_separator text spans t at zero h z e = absurd (omega arith)
  behind_separator text spans t at (suc n) h z e =
      sym (passed text spans t (suc n) at h) ∙ inside_first
      ∙ separator text spans t at at (suc n) (omega (arith, h)) (omega arith) z e
    where
      inside_first : from_here l text spans t (at + suc n) at ≡ from_here l text spans t (at + suc n) (at + 1)
      inside_first = sym (inside text spans t (at + suc n) at (omega (arith, h)) (omega arith))

  -- behind a token
  pub behind_token : (text : List ℕ) (spans : List Span) (t : Bool) (at n : ℕ) → at + n ≤ length text
      → 0 ≡ l.separator_length (drop at text) → n ≡ l.token_length t (drop at text) → 0 < n →
      from_here l text (spans ++ record { at = at; end = at + n } ∷ []) (l.flag_after t (take n (drop at text))) (at + n)
      (at + n) ≡ from_here l text spans t at at
  behind_token text spans t at zero h e f z = absurd (omega arith)
  behind_token text spans t at (suc n) h e f z =
      let more : List Span = spans ++ record { at = at; end = at + suc n } ∷ [] in
      let o : Bool = l.flag_after t (take (suc n) (drop at text)) in
      sym (passed text more o (suc n) at h)
      ∙ sym (inside text more o (at + suc n) at (omega (arith, h)) (omega arith))
      ∙ token text spans t at at (suc n) (omega (arith, h)) (omega arith) e f z

  -- behind blanks, where each is a separator
  module _ (blank_length : (b : ℕ) (s : List ℕ) → is_blank b ≡ true → l.separator_length (b ∷ s) ≡ 1) where
    over_run : (text : List ℕ) (spans : List Span) (t : Bool) (n at : ℕ) → prefix_len is_blank (drop at text) ≡ n →
        from_here l text spans t (at + n) (at + n) ≡ from_here l text spans t at at
    over_run text spans t zero at e = let z : at + 0 ≡ at = omega arith in ap (λ (m : ℕ). from_here l text spans t m m) z
    over_run text spans t (suc n) at e =
        let k : suc n ≤ length (drop at text) = (run_at is_blank (suc n) (drop at text) e).1 in
        let h : at < length text = omega (arith, k, length-drop at text) in
        let m = more (is_blank (get_or text at 0)) (prefix_len is_blank (drop (at + 1) text)) n
        (ap (prefix_len is_blank) (sym (cons text at h)) ∙ e) in
        let z : at + suc n ≡ at + 1 + n = omega arith in
        ap (λ (i : ℕ). from_here l text spans t i i) z
        ∙ over_run text spans t n (at + 1) m.1
        ∙ behind_separator text spans t at 1 (omega (arith, h)) (omega arith)
        (sym (ap l.separator_length (cons text at h) ∙ blank_length (get_or text at 0) (drop (at + 1) text) m.0))

    pub over_blanks : (text : List ℕ) (spans : List Span) (t : Bool) (at r : ℕ) → r ≡ at + prefix_len is_blank (drop at text) →
        from_here l text spans t r r ≡ from_here l text spans t at at
    over_blanks text spans t at r e =
        ap (λ (m : ℕ). from_here l text spans t m m) e ∙ over_run text spans t (prefix_len is_blank (drop at text)) at refl
