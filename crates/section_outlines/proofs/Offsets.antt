-- Words that stand next, at any offset, and how long a section is at least.
use Rattle.std.proofs.Common.{◌≡◌, ℕ, suc, ◌+◌, ◌<◌, Bool, true, false, ◌&&◌, ◌||◌, if◌then◌else◌, List, [], ◌∷◌, ◌++◌, length}
use Rattle.std.proofs.Common.{Option, slice_get, unwrap_or, refl, ap, ◌∙◌, arith}
use Rattle.std.proofs.Math.Seq.{take-append_seam}
use Rattle.lexer.specs.Tokens.{Token, Lexis, scan, scan_of, at_front, after, spellings}
use Rattle.lexer.specs.Places.{AreInOrder}
use Rattle.lexer.specs.Separators.{spelled}
use Rattle.lexer.proofs.Padding.{any_offset}
use Rattle.lexer.proofs.Standing.{stand_in_order}
use Rattle.driver_sections.specs.Marks.{Vocabulary, Marks, Ending, are_next, behind, ends}
use Rattle.driver_sections.specs.Sections.{section_length, begins_section}
use Rattle.section_outlines.specs.Marked.{tokens_with}

-- tokens of the same bytes are the same words
pub same_words : (is_same : List ℕ → List ℕ → Bool) (words : List (List ℕ)) (ts us : List Token) → spellings ts ≡ spellings us →
    are_next is_same words ts ≡ are_next is_same words us
same_words is_same [] ts us e = refl
same_words is_same (word ∷ words) [] [] e = refl
same_words is_same (word ∷ words) [] (u ∷ us) e = absurd cc
same_words is_same (word ∷ words) (t ∷ ts) [] e = absurd cc
same_words is_same (word ∷ words) (t ∷ ts) (u ∷ us) e =
    let first : t.bytes ≡ u.bytes = cc in
    let others : spellings ts ≡ spellings us = cc in
    ap (λ (x : List ℕ). is_same x word && are_next is_same words ts) first
    ∙ ap (λ (b : Bool). is_same u.bytes word && b) (same_words is_same words ts us others)

module _ (l : Lexis) where
  -- bytes of what stands before are passed over
  over_bytes : (t : Bool) (at : ℕ) (w r : List ℕ) → scan l t at (length w) (w ++ r) ≡ scan l t (at + length w) 0 r
  over_bytes t at [] r = let e : at ≡ at + 0 = omega arith in ap (λ (i : ℕ). scan l t i 0 r) e
  over_bytes t at (c ∷ w) r =
      let e : at + 1 + length w ≡ at + length (c ∷ w) = omega arith in
      over_bytes t (at + 1) w r ∙ ap (λ (i : ℕ). scan l t i 0 r) e

  -- a separator is passed over
  pub over_separator : (t : Bool) (at b : ℕ) (w r : List ℕ) → l.separator_length (b ∷ w ++ r) ≡ suc (length w) →
      scan l t at 0 (b ∷ w ++ r) ≡ scan l t (at + suc (length w)) 0 r
  over_separator t at b w r e =
      let f : at + 1 + length w ≡ at + suc (length w) = omega arith in
      ap (λ n. at_front l t at (b ∷ w ++ r) (λ o k. scan l o (at + 1) k (w ++ r)) n (l.token_length t (b ∷ w ++ r))) e
      ∙ over_bytes t (at + 1) w r ∙ ap (λ (i : ℕ). scan l t i 0 r) f

  -- a token is found
  pub over_token : (t : Bool) (at b : ℕ) (w r : List ℕ) → l.separator_length (b ∷ w ++ r) ≡ 0
      → l.token_length t (b ∷ w ++ r) ≡ suc (length w) →
      scan l t at 0 (b ∷ w ++ r) ≡ after (record { at = at; bytes = b ∷ w })
      (scan l (l.flag_after t (b ∷ w)) (at + suc (length w)) 0 r)
  over_token t at b w r e f =
      let g : at + 1 + length w ≡ at + suc (length w) = omega arith in
      ap (λ n. at_front l t at (b ∷ w ++ r) (λ o k. scan l o (at + 1) k (w ++ r)) n (l.token_length t (b ∷ w ++ r))) e
      ∙ ap (λ n. at_front l t at (b ∷ w ++ r) (λ o k. scan l o (at + 1) k (w ++ r)) 0 n) f
      ∙ ap (λ (s : List ℕ). after (record { at = at; bytes = b ∷ s })
      (scan l (l.flag_after t (b ∷ s)) (at + 1) (length w) (w ++ r))) (take-append_seam w r)
      ∙ ap (after (record { at = at; bytes = b ∷ w }))
      (over_bytes (l.flag_after t (b ∷ w)) (at + 1) w r ∙ ap (λ (i : ℕ). scan l (l.flag_after t (b ∷ w)) i 0 r) g)

  pub behind_pair : (t : Token) (r : List Token × Option ℕ) → (after t r).0 ≡ t ∷ r.0
  behind_pair t (ts, f) = refl

  same_tokens : (t : Bool) (at z : ℕ) (s : List ℕ) → spellings (scan l t at 0 s).0 ≡ spellings (scan l t z 0 s).0
  same_tokens t at z s = by (scan l t at 0 s) (scan l t z 0 s) (any_offset l t at z 0 s)
    where
      by : (p q : List Token × Option ℕ) → spelled p ≡ spelled q → spellings p.0 ≡ spellings q.0
      by (ts, f) (us, g) e = ap (λ (found : List (List ℕ) × Bool). found.0) e

  -- the words at a token are those at any offset
  pub words_at : (is_same : List ℕ → List ℕ → Bool) (words : List (List ℕ)) (t : Bool) (at b : ℕ) (w r : List ℕ)
      → l.separator_length (b ∷ w ++ r) ≡ 0 →
      l.token_length t (b ∷ w ++ r) ≡ suc (length w) →
      are_next is_same words (scan l t at 0 (b ∷ w ++ r)).0 ≡ are_next is_same words (tokens_with l t (b ∷ w) r)
  words_at is_same words t at b w r e f =
      let set : Bool = l.flag_after t (b ∷ w) in
      ap (λ (found : List Token × Option ℕ). are_next is_same words found.0) (over_token t at b w r e f)
      ∙ ap (are_next is_same words) (behind_pair (record { at = at; bytes = b ∷ w }) (scan l set (at + suc (length w)) 0 r))
      ∙ same_words is_same words (record { at = at; bytes = b ∷ w } ∷ (scan l set (at + suc (length w)) 0 r).0)
      (tokens_with l t (b ∷ w) r)
      (ap (λ (ws : List (List ℕ)). (b ∷ w) ∷ ws) (same_tokens set (at + suc (length w)) 0 r))

-- a section begins here, whatever the offset is
pub begins_anywhere : (v : Vocabulary) (m : Marks) (t : Bool) (at : ℕ) (s : List ℕ)
    → begins_section v m t at s ≡ begins_section v m t 0 s
begins_anywhere v m t at s =
    same_words v.is_same m.beginning (scan v.lexis t at 0 s).0 (scan v.lexis t 0 0 s).0 (same_tokens v.lexis t at 0 s)

-- a part ends behind a byte at least
some_end : (is_same : List ℕ → List ℕ → Bool) (e : Ending) (ended : Bool) (from len : ℕ) (ts : List Token) (f : Option ℕ) (n : ℕ)
    → AreInOrder from len ts f → 0 < n →
    0 < unwrap_or (slice_get (ends is_same e ended ts) 0) n
some_end is_same e ended from len [] f n o h = h
some_end is_same e ended from len (t ∷ ts) f n o h =
    by (ended || are_next is_same e.words (t ∷ ts)) (is_same t.bytes e.closing)
    (λ k. some_end is_same e k (t.at + length t.bytes) len ts f n o.3 h)
  where
    by : (met closed : Bool) → ((k : Bool) → 0 < unwrap_or (slice_get (ends is_same e k ts) 0) n) →
        0 < unwrap_or (slice_get (if met then (if closed then behind t ∷ ends is_same e false ts else ends is_same e true ts)
        else ends is_same e false ts) 0) n
    by true true go = omega (arith, o.1)
    by true false go = go true
    by false closed go = go false

-- a section has a byte at least
pub some_section : (v : Vocabulary) (m : Marks) (b : ℕ) (bs : List ℕ) → 0 < section_length v m (b ∷ bs)
some_section v m b bs =
    some_end v.is_same m.ending false 0 (length (b ∷ bs)) (scan_of v.lexis (b ∷ bs)).0 (scan_of v.lexis (b ∷ bs)).1
    (length (b ∷ bs)) (stand_in_order v.lexis (b ∷ bs)) (omega arith)
