-- The outline of a text is what its sections say.
use Rattle.std.proofs.Common.{◌≡◌, ℕ, zero, suc, ◌+◌, ◌-◌, ◌≤◌, ◌<◌, Bool, true, false, if◌then◌else◌, List, [], ◌∷◌, ◌++◌, map}
use Rattle.std.proofs.Common.{take, drop, replicate, slice_range, refl, sym, ap, subst, ◌∙◌, arith, append_assoc}
use Rattle.std.proofs.lemmas.List.{take-append-drop, drop-drop}
use Rattle.std.proofs.Math.Seq.{take-add}
use Rattle.lexer.specs.declared.span.Span.{Span}
use Rattle.driver_sections.specs.Marks.{Vocabulary, Marks}
use Rattle.driver_sections.specs.Sections.{section_length, begins_section, sections_from, sections, blanked_from, blanked}
use Rattle.driver_sections.specs.Sections.{text_of}
use Rattle.driver_sections.specs.Sections as sections
use Rattle.section_outlines.specs.Outline.{Outline, with_bytes, with_section, at_token, at_front, outline}
use Rattle.section_outlines.proofs.Offsets.{begins_anywhere, some_section}

-- the first section stands from an offset on
abbrev BeginFrom : ℕ → List Span → Type 0
BeginFrom from [] = Unit {0}
BeginFrom from (s ∷ found) = from ≤ s.at

earlier : (from before : ℕ) (found : List Span) → before ≤ from → BeginFrom from found → BeginFrom before found
earlier from before [] h k = tt
earlier from before (s ∷ found) h k = omega (arith, h, k)

-- bytes before the first section are as they were
split : (text : List ℕ) (from k : ℕ) (found : List Span) → BeginFrom (from + k) found →
    blanked_from text from found ≡ take k (drop from text) ++ blanked_from text (from + k) found
split text from k [] h =
    sym (take-append-drop k (drop from text)) ∙ ap (λ (s : List ℕ). take k (drop from text) ++ s) (drop-drop k from text)
split text from k (s ∷ found) h =
    let more : List ℕ = replicate (s.end - s.at) 32 ++ blanked_from text s.end found in
    let size : s.at - from ≡ k + (s.at - (from + k)) = omega (arith, h) in
    ap (λ (n : ℕ). take n (drop from text) ++ more) size
    ∙ ap (λ (x : List ℕ). x ++ more)
    (take-add k (s.at - (from + k)) (drop from text)
    ∙ ap (λ (x : List ℕ). take k (drop from text) ++ take (s.at - (from + k)) x) (drop-drop k from text))
    ∙ append_assoc (take k (drop from text)) (slice_range text (from + k) s.at) more

module _ (v : Vocabulary) (m : Marks) where
  -- sections that begin at or behind where they may
  begin : (bs : List ℕ) (flag : Bool) (at n : ℕ) → BeginFrom (at + n) (sections_from v m flag at n bs)
  begin [] flag at n = tt
  begin (b ∷ bs) flag at (suc n) =
      earlier (at + 1 + n) (at + suc n) (sections_from v m flag (at + 1) n bs) (omega arith) (begin bs flag (at + 1) n)
  begin (b ∷ bs) flag at zero =
      by (v.lexis.separator_length (b ∷ bs)) (v.lexis.token_length flag (b ∷ bs))
      (λ set n. earlier (at + 1 + n) (at + 0) (sections_from v m set (at + 1) n bs) (omega arith) (begin bs set (at + 1) n))
    where
      rest : Bool → ℕ → List Span
      rest set n = sections_from v m set (at + 1) n bs

      by_token : (is : Bool) (n : ℕ) → ((set : Bool) (n : ℕ) → BeginFrom (at + 0) (rest set n)) →
          BeginFrom (at + 0) (if is then record { at = at; end = at + section_length v m (b ∷ bs) } ∷ rest flag
          (section_length v m (b ∷ bs) - 1) else rest (v.lexis.flag_after flag (take (suc n) (b ∷ bs))) n)
      by_token true n later = omega arith
      by_token false n later = later (v.lexis.flag_after flag (take (suc n) (b ∷ bs))) n

      by : (k j : ℕ) → ((set : Bool) (n : ℕ) → BeginFrom (at + 0) (rest set n))
          → BeginFrom (at + 0) (sections.at_front v m flag at (b ∷ bs) rest k j)
      by zero zero later = tt
      by zero (suc n) later = by_token (begins_section v m flag at (b ∷ bs)) n later
      by (suc n) j later = later flag n

  module _ (text : List ℕ) where
    -- what sections from an offset on say of the text
    abbrev said : ℕ → List Span → Outline
    said from found = (blanked_from text from found, map (text_of text) found)

    pair : (a c : List ℕ) (x y : List (List ℕ)) → a ≡ c → x ≡ y → ◌≡◌ {A = Outline} (a, x) (c, y)
    pair a c x y e f = ap (λ (s : List ℕ). (s, x)) e ∙ ap (λ (z : List (List ℕ)). (c, z)) f

    -- so many bytes of no section stand next
    pass : (bs : List ℕ) (at n : ℕ) (found : List Span) (o : Outline) → drop at text ≡ bs → BeginFrom (at + 1 + n) found
        → said (at + 1 + n) found ≡ o →
        said (at + 0) found ≡ with_bytes (take (suc n) bs) o
    pass bs at n found o e h i =
        let z : at + 0 ≡ at = omega arith in
        let k : at + suc n ≡ at + 1 + n = omega arith in
        ap (λ (j : ℕ). said j found) z
        ∙ ap (λ (s : List ℕ). (s, map (text_of text) found))
        (split text at (suc n) found (subst (λ (j : ℕ). BeginFrom j found) (sym k) h))
        ∙ ap (λ (s : List ℕ). (take (suc n) s ++ blanked_from text (at + suc n) found, map (text_of text) found)) e
        ∙ ap (λ (j : ℕ). with_bytes (take (suc n) bs) (said j found)) k
        ∙ ap (with_bytes (take (suc n) bs)) i

    -- a section of so many bytes stands next
    section : (bs : List ℕ) (at n : ℕ) (found : List Span) (o : Outline) → drop at text ≡ bs → 0 < n
        → said (at + 1 + (n - 1)) found ≡ o →
        said (at + 0) (record { at = at; end = at + n } ∷ found) ≡ with_section n (take n bs) o
    section bs at n found o e h i =
        let none : at - (at + 0) ≡ 0 = omega arith in
        let size : at + n - at ≡ n = omega arith in
        let k : at + n ≡ at + 1 + (n - 1) = omega (arith, h) in
        ap (λ (j : ℕ). (
          take j (drop (at + 0) text) ++ (replicate (at + n - at) 32 ++ blanked_from text (at + n) found),
          take
              (at + n - at) (drop at text) ∷ map (text_of text) found,
        )) none
        ∙ ap (λ (j : ℕ). (replicate j 32 ++ blanked_from text (at + n) found, take j (drop at text) ∷ map (text_of text) found))
        size
        ∙ ap (λ (s : List ℕ). (replicate n 32 ++ blanked_from text (at + n) found, take n s ∷ map (text_of text) found)) e
        ∙ ap (λ (j : ℕ). with_section n (take n bs) (said j found)) k
        ∙ ap (with_section n (take n bs)) i

    behind_first : (at b : ℕ) (bs : List ℕ) → drop at text ≡ b ∷ bs → drop (at + 1) text ≡ bs
    behind_first at b bs e = sym (drop-drop 1 at text) ∙ ap (drop 1) e

    outlined : (bs : List ℕ) (flag : Bool) (at n : ℕ) → drop at text ≡ bs
        → said (at + n) (sections_from v m flag at n bs) ≡ outline v m flag n bs
    outlined [] flag at n e =
        ap (λ (s : List ℕ). (s, [])) (sym (drop-drop n at text) ∙ ap (drop n) e ∙ nothing n)
      where
        nothing : (k : ℕ) → drop {A = ℕ} k [] ≡ []
        nothing zero = refl
        nothing (suc k) = refl
    outlined (b ∷ bs) flag at (suc n) e =
        let k : at + suc n ≡ at + 1 + n = omega arith in
        ap (λ (j : ℕ). said j (sections_from v m flag (at + 1) n bs)) k ∙ outlined bs flag (at + 1) n (behind_first at b bs e)
    outlined (b ∷ bs) flag at zero e =
        by (v.lexis.separator_length (b ∷ bs)) (v.lexis.token_length flag (b ∷ bs))
        (λ set n. outlined bs set (at + 1) n (behind_first at b bs e))
      where
        rest : Bool → ℕ → List Span
        rest set n = sections_from v m set (at + 1) n bs

        others : Bool → ℕ → Outline
        others set n = outline v m set n bs

        by_token : (is : Bool) (n : ℕ) → ((set : Bool) (n : ℕ) → said (at + 1 + n) (rest set n) ≡ others set n)
            → begins_section v m flag 0 (b ∷ bs) ≡ is →
            said (at + 0) (sections.at_token v m flag at (b ∷ bs) rest n) ≡ at_token v m flag (b ∷ bs) others n
        by_token true n later f =
            let size : ℕ = section_length v m (b ∷ bs) in
            rw (begins_anywhere v m flag at (b ∷ bs), f)
            (section (b ∷ bs) at size (rest flag (size - 1)) (others flag (size - 1)) e (some_section v m b bs)
            (later flag (size - 1)))
        by_token false n later f =
            let set : Bool = v.lexis.flag_after flag (take (suc n) (b ∷ bs)) in
            rw (begins_anywhere v m flag at (b ∷ bs), f)
            (pass (b ∷ bs) at n (rest set n) (others set n) e (begin bs set (at + 1) n) (later set n))

        by : (k j : ℕ) → ((set : Bool) (n : ℕ) → said (at + 1 + n) (rest set n) ≡ others set n) →
            said (at + 0) (sections.at_front v m flag at (b ∷ bs) rest k j) ≡ at_front v m flag (b ∷ bs) others k j
        by zero zero later = let z : at + 0 ≡ at = omega arith in ap (λ (s : List ℕ). (s, [])) (ap (λ (j : ℕ). drop j text) z ∙ e)
        by zero (suc n) later = by_token (begins_section v m flag 0 (b ∷ bs)) n later refl
        by (suc n) j later = pass (b ∷ bs) at n (rest flag n) (others flag n) e (begin bs flag (at + 1) n) (later flag n)

  -- the outline of a text: its bytes without its sections, and these
  pub outline_is : (text : List ℕ) → ◌≡◌ {A = Outline} (blanked text (sections v m text), map (text_of text) (sections v m text))
      (outline v m false 0 text)
  outline_is text = outlined text text false 0 0 refl
