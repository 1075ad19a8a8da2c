-- What the outline of a text is, and where its parts end, by its separators and its tokens.
use Rattle.std.proofs.Common.{◌≡◌, ℕ, suc, ◌+◌, ◌-◌, Bool, true, false, if◌then◌else◌, List, [], ◌∷◌, ◌++◌, length, take, Option}
use Rattle.std.proofs.Common.{slice_get, unwrap_or, refl, sym, ap, ◌∙◌, arith, length-append}
use Rattle.std.proofs.Math.Seq.{take-append_seam}
use Rattle.lexer.specs.Tokens.{Token, scan}
use Rattle.driver_sections.specs.Marks.{Vocabulary, Marks, are_next, ends}
use Rattle.driver_sections.specs.Sections.{section_length, begins_section}
use Rattle.grammar_reader.proofs.Fronts.{Front}
use Rattle.grammar_reader.proofs.Passages.{Passes, at_end, separator, token, behind_part}
use Rattle.section_outlines.specs.Marked.{begins, ends_next}
use Rattle.section_outlines.specs.Outline.{with_bytes, with_section, at_front, outline}
use Rattle.section_outlines.proofs.Offsets.{behind_pair, words_at}
use Rattle.section_outlines.proofs.Offsets as offsets

module _ (v : Vocabulary) (m : Marks) where
  -- bytes of what stands before are passed over
  over_bytes : (t : Bool) (w s : List ℕ) → outline v m t (length w) (w ++ s) ≡ outline v m t 0 s
  over_bytes t [] s = refl
  over_bytes t (c ∷ w) s = over_bytes t w s

  -- of a separator or a token all bytes are kept
  kept : (t : Bool) (b : ℕ) (w s : List ℕ) (set : List ℕ → Bool) →
      with_bytes (take (suc (length w)) (b ∷ w ++ s))
      (outline v m (set (take (suc (length w)) (b ∷ w ++ s))) (length w) (w ++ s)) ≡ with_bytes (b ∷ w)
      (outline v m (set (b ∷ w)) 0 s)
  kept t b w s set =
      ap (λ (x : List ℕ). with_bytes (b ∷ x) (outline v m (set (b ∷ x)) (length w) (w ++ s))) (take-append_seam w s)
      ∙ ap (with_bytes (b ∷ w)) (over_bytes (set (b ∷ w)) w s)

  over_separator : (t : Bool) (b : ℕ) (w s : List ℕ) → v.lexis.separator_length (b ∷ w ++ s) ≡ suc (length w) →
      outline v m t 0 (b ∷ w ++ s) ≡ with_bytes (b ∷ w) (outline v m t 0 s)
  over_separator t b w s e =
      ap (λ (n : ℕ). at_front v m t (b ∷ w ++ s) (λ set k. outline v m set k (w ++ s)) n (v.lexis.token_length t (b ∷ w ++ s))) e
      ∙ kept t b w s (λ x. t)

  -- a token of so many bytes stands next
  at_size : (t : Bool) (b n : ℕ) (s : List ℕ) → v.lexis.separator_length (b ∷ s) ≡ 0 → v.lexis.token_length t (b ∷ s) ≡ suc n
      → (is : Bool) →
      begins_section v m t 0 (b ∷ s) ≡ is →
      outline v m t 0 (b ∷ s) ≡
      (if is
      then with_section (section_length v m (b ∷ s)) (take (section_length v m (b ∷ s)) (b ∷ s))
      (outline v m t (section_length v m (b ∷ s) - 1) s)
      else with_bytes (take (suc n) (b ∷ s)) (outline v m (v.lexis.flag_after t (take (suc n) (b ∷ s))) n s))
  at_size t b n s e f is g =
      ap (λ (k : ℕ). at_front v m t (b ∷ s) (λ set k. outline v m set k s) k (v.lexis.token_length t (b ∷ s))) e
      ∙ ap (λ (k : ℕ). at_front v m t (b ∷ s) (λ set k. outline v m set k s) 0 k) f
      ∙ ap (λ (yes : Bool). if yes
      then with_section (section_length v m (b ∷ s)) (take (section_length v m (b ∷ s)) (b ∷ s))
      (outline v m t (section_length v m (b ∷ s) - 1) s)
      else with_bytes (take (suc n) (b ∷ s)) (outline v m (v.lexis.flag_after t (take (suc n) (b ∷ s))) n s)) g

  over_token : (t : Bool) (b : ℕ) (w s : List ℕ) → v.lexis.separator_length (b ∷ w ++ s) ≡ 0
      → v.lexis.token_length t (b ∷ w ++ s) ≡ suc (length w) →
      begins v m t (b ∷ w) s ≡ false → outline v m t 0 (b ∷ w ++ s) ≡ with_bytes (b ∷ w)
      (outline v m (v.lexis.flag_after t (b ∷ w)) 0 s)
  over_token t b w s e f o =
      at_size t b (length w) (w ++ s) e f false (words_at v.lexis v.is_same m.beginning t 0 b w s e f ∙ o)
      ∙ kept t b w s (v.lexis.flag_after t)

  -- a section of these bytes stands next
  pub over_section : (t : Bool) (b n : ℕ) (w s : List ℕ) → v.lexis.separator_length (b ∷ w ++ s) ≡ 0
      → v.lexis.token_length t (b ∷ w ++ s) ≡ suc n →
      begins_section v m t 0 (b ∷ w ++ s) ≡ true → section_length v m (b ∷ w ++ s) ≡ suc (length w) →
      outline v m t 0 (b ∷ w ++ s) ≡ with_section (suc (length w)) (b ∷ w) (outline v m t 0 s)
  over_section t b n w s e f g h =
      let k : suc (length w) - 1 ≡ length w = omega arith in
      at_size t b n (w ++ s) e f true g
      ∙ ap (λ (k : ℕ). with_section k (take k (b ∷ w ++ s)) (outline v m t (k - 1) (w ++ s))) h
      ∙ ap (λ (i : ℕ). with_section (suc (length w)) (b ∷ take (length w) (w ++ s)) (outline v m t i (w ++ s))) k
      ∙ ap (λ (x : List ℕ). with_section (suc (length w)) (b ∷ x) (outline v m t (length w) (w ++ s))) (take-append_seam w s)
      ∙ ap (with_section (suc (length w)) (b ∷ w)) (over_bytes t w s)

  -- a text in which no section begins is kept
  pub kept_whole : {t u : Bool} {text r : List ℕ} {f : Front} → Passes v.lexis (begins v m) t text r f u
      → outline v m t 0 (text ++ r) ≡ with_bytes text (outline v m u 0 r)
  kept_whole at_end = refl
  kept_whole (separator {t} {u} {text} {r} b w more e n h) =
      ap (outline v m t 0) (behind_part b w more e r) ∙ over_separator t b w (more ++ r) n
      ∙ ap (with_bytes (b ∷ w)) (kept_whole h)
      ∙ ap (λ (x : List ℕ). (x, (outline v m u 0 r).1)) (sym (behind_part b w more e (outline v m u 0 r).0))
  kept_whole (token {t} {u} {text} {r} b w more e n k o h) =
      ap (outline v m t 0) (behind_part b w more e r) ∙ over_token t b w (more ++ r) n k o
      ∙ ap (with_bytes (b ∷ w)) (kept_whole h)
      ∙ ap (λ (x : List ℕ). (x, (outline v m u 0 r).1)) (sym (behind_part b w more e (outline v m u 0 r).0))

  -- The ends of parts.

  behind_length : {text : List ℕ} (b : ℕ) (w more : List ℕ) → text ≡ b ∷ w ++ more → (at : ℕ)
      → at + suc (length w) + length more ≡ at + length text
  behind_length b w more e at =
      let n : length (b ∷ w ++ more) ≡ suc (length w + length more) = ap (λ (k : ℕ). suc k) (length-append w more) in
      let k : at + suc (length w) + length more ≡ at + length (b ∷ w ++ more) = omega (arith, n) in
      k ∙ ap (λ (s : List ℕ). at + length s) (sym e)

  ends_later : (x : Token) (ts : List Token) → are_next v.is_same m.ending.words (x ∷ ts) ≡ false
      → ends v.is_same m.ending false (x ∷ ts) ≡ ends v.is_same m.ending false ts
  ends_later x ts e = rw e refl

  -- a token that is none of the words that end a part
  no_word : (t : Bool) (at b : ℕ) (w s : List ℕ) → v.lexis.separator_length (b ∷ w ++ s) ≡ 0
      → v.lexis.token_length t (b ∷ w ++ s) ≡ suc (length w) →
      ends_next v m t (b ∷ w) s ≡ false →
      ends v.is_same m.ending false (scan v.lexis t at 0 (b ∷ w ++ s)).0 ≡ ends v.is_same m.ending false
      (scan v.lexis (v.lexis.flag_after t (b ∷ w)) (at + suc (length w)) 0 s).0
  no_word t at b w s e f o =
      let x : Token = record { at = at; bytes = b ∷ w } in
      let rest : List Token × Option ℕ = scan v.lexis (v.lexis.flag_after t (b ∷ w)) (at + suc (length w)) 0 s in
      let split : (scan v.lexis t at 0 (b ∷ w ++ s)).0 ≡ x ∷ rest.0 =
      ap (λ (found : List Token × Option ℕ). found.0) (offsets.over_token v.lexis t at b w s e f) ∙ behind_pair v.lexis x rest in
      ap (ends v.is_same m.ending false) split
      ∙ ends_later x rest.0 (sym (ap (are_next v.is_same m.ending.words) split)
      ∙ words_at v.lexis v.is_same m.ending.words t at b w s e f ∙ o)

  -- a text in which no part ends
  pub no_end : {t u : Bool} {text r : List ℕ} {f : Front} → Passes v.lexis (ends_next v m) t text r f u → (at : ℕ) →
      ends v.is_same m.ending false (scan v.lexis t at 0 (text ++ r)).0 ≡ ends v.is_same m.ending false
      (scan v.lexis u (at + length text) 0 r).0
  no_end (at_end {t} {r}) at = let z : at ≡ at + 0 = omega arith
      in ap (λ (i : ℕ). ends v.is_same m.ending false (scan v.lexis t i 0 r).0) z
  no_end (separator {t} {u} {text} {r} b w more e n h) at =
      ap (λ (s : List ℕ). ends v.is_same m.ending false (scan v.lexis t at 0 s).0) (behind_part b w more e r)
      ∙ ap (λ (found : List Token × Option ℕ). ends v.is_same m.ending false found.0)
      (offsets.over_separator v.lexis t at b w (more ++ r) n)
      ∙ no_end h (at + suc (length w)) ∙ ap (λ (i : ℕ). ends v.is_same m.ending false (scan v.lexis u i 0 r).0)
      (behind_length b w more e at)
  no_end (token {t} {u} {text} {r} b w more e n k o h) at =
      ap (λ (s : List ℕ). ends v.is_same m.ending false (scan v.lexis t at 0 s).0) (behind_part b w more e r)
      ∙ no_word t at b w (more ++ r) n k o
      ∙ no_end h (at + suc (length w)) ∙ ap (λ (i : ℕ). ends v.is_same m.ending false (scan v.lexis u i 0 r).0)
      (behind_length b w more e at)

  -- the length of a section that does not end in a text, by what stands behind this
  pub section_is : {u : Bool} {text r : List ℕ} {f : Front} → Passes v.lexis (ends_next v m) false text r f u
      → (n : ℕ) (others : List ℕ) →
      ends v.is_same m.ending false (scan v.lexis u (length text) 0 r).0 ≡ n ∷ others → section_length v m (text ++ r) ≡ n
  section_is {u} {text = text} {r = r} h n others e =
      let z : 0 + length text ≡ length text = omega arith in
      ap (λ (found : List ℕ). unwrap_or (slice_get found 0) (length (text ++ r)))
      (no_end h 0 ∙ ap (λ (i : ℕ). ends v.is_same m.ending false (scan v.lexis u i 0 r).0) z ∙ e)
