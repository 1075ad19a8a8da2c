-- The rest of a text around its sections is as long as the text.
use Rattle.std.proofs.Common.{◌≡◌, ◌≤◌, ℕ, zero, suc, ◌+◌, ◌-◌, Bool, true, false, ◌||◌, if◌then◌else◌, List, [], ◌∷◌, ◌++◌, take}
use Rattle.std.proofs.Common.{drop, length, replicate, slice_get, slice_range, unwrap_or, Option, arith, length-append}
use Rattle.std.proofs.Common.{length-drop}
use Rattle.std.specs.List.{AllByRecursion}
use Rattle.std.proofs.lemmas.List.{length-take, length-take-le, length-replicate}
use Rattle.lexer.specs.Tokens.{Token, Lexis, at_front, scan, scan_of}
use Rattle.lexer.specs.declared.span.Span.{Span}
use Rattle.driver_sections.specs.Marks.{Vocabulary, Marks, Ending, are_next, behind, ends}
use Rattle.driver_sections.specs.Sections.{section_length, begins_section, at_front as section_front, sections_from, sections}
use Rattle.driver_sections.specs.Sections.{blanked_from, blanked, StandApart}
use Rattle.driver_sections.proofs.Spaces.{in_order}

-- all tokens end so early
abbrev EndBy : ℕ → List Token → Type 0
EndBy end ts = AllByRecursion (λ t. behind t ≤ end) ts

module _ (l : Lexis) where
  front_within : (flag : Bool) (at : ℕ) (bytes : List ℕ) (rest : Bool → ℕ → List Token × Option ℕ) (s t end : ℕ)
      → at + length bytes ≡ end
      → ((b : Bool) (n : ℕ) → EndBy end (rest b n).0) → EndBy end (at_front l flag at bytes rest s t).0
  front_within flag at bytes rest zero zero end h all = tt
  front_within flag at bytes rest zero (suc n) end h all =
      let most : length (take (suc n) bytes) ≤ length bytes = omega (arith, length-take (suc n) bytes) in
      (omega (arith, most, h), all (l.flag_after flag (take (suc n) bytes)) n)
  front_within flag at bytes rest (suc n) t end h all = all flag n

  scan_within : (flag : Bool) (at n end : ℕ) (bytes : List ℕ) → at + length bytes ≡ end → EndBy end (scan l flag at n bytes).0
  scan_within flag at n end [] e = tt
  scan_within flag at (suc n) end (b ∷ bs) e = scan_within flag (at + 1) n end bs (omega arith)
  scan_within flag at zero end (b ∷ bs) e =
      front_within flag at (b ∷ bs) (λ set n. scan l set (at + 1) n bs) (l.separator_length (b ∷ bs))
      (l.token_length flag (b ∷ bs)) end e
      (λ set n. scan_within set (at + 1) n end bs (omega arith))

ends_within : (is_same : List ℕ → List ℕ → Bool) (e : Ending) (ended : Bool) (end : ℕ) (ts : List Token) → EndBy end ts
    → AllByRecursion (λ n. n ≤ end) (ends is_same e ended ts)
ends_within is_same e ended end [] h = tt
ends_within is_same e ended end (t ∷ ts) h =
    by (ended || are_next is_same e.words (t ∷ ts)) (is_same t.bytes e.closing) (ends_within is_same e false end ts h.1)
    (ends_within is_same e true end ts h.1)
  where
    by : (a b : Bool) → AllByRecursion (λ n. n ≤ end) (ends is_same e false ts)
        → AllByRecursion (λ n. n ≤ end) (ends is_same e true ts)
        → AllByRecursion (λ n. n ≤ end) (if a then (if b then behind t ∷ ends is_same e false ts else ends is_same e true ts)
        else ends is_same e false ts)
    by true true f g = (h.0, f)
    by true false f g = g
    by false b f g = f

first_within : (ns : List ℕ) (end : ℕ) → AllByRecursion (λ n. n ≤ end) ns → unwrap_or (slice_get ns 0) end ≤ end
first_within [] end h = omega arith
first_within (n ∷ ns) end h = h.0

module _ (v : Vocabulary) (m : Marks) where
  -- a section lies in its text
  section_within : (bytes : List ℕ) → section_length v m bytes ≤ length bytes
  section_within bytes =
      first_within (ends v.is_same m.ending false (scan_of v.lexis bytes).0) (length bytes)
      (ends_within v.is_same m.ending false (length bytes) (scan_of v.lexis bytes).0
      (scan_within v.lexis false 0 0 (length bytes) bytes (omega arith)))

  token_apart : (b : Bool) (at len : ℕ) (rest : ℕ → List Span) (other : List Span) (low end : ℕ) → low ≤ at → at + len ≤ end
      → StandApart (at + len) end (rest (len - 1)) → StandApart low end other
      → StandApart low end (if b then record { at = at; end = at + len } ∷ rest (len - 1) else other)
  token_apart true at len rest other low end h k next also = (h, omega arith, next)
  token_apart false at len rest other low end h k next also = also

  front_apart : (flag : Bool) (at : ℕ) (bytes : List ℕ) (rest : Bool → ℕ → List Span) (s t low end : ℕ) → at + length bytes ≡ end
      → low ≤ at
      → ((b : Bool) (n low : ℕ) → low ≤ at + 1 + n → low ≤ end → StandApart low end (rest b n))
      → StandApart low end (section_front v m flag at bytes rest s t)
  front_apart flag at bytes rest zero zero low end e h all = omega (arith, e, h)
  front_apart flag at bytes rest zero (suc n) low end e h all =
      let len = section_length v m bytes in
      let within : section_length v m bytes ≤ length bytes = section_within bytes in
      token_apart (begins_section v m flag at bytes) at len (rest flag) (rest (v.lexis.flag_after flag (take (suc n) bytes)) n)
      low end h (omega (arith, within, e))
      (all flag (len - 1) (at + len) (omega arith) (omega (arith, within, e)))
      (all (v.lexis.flag_after flag (take (suc n) bytes)) n low (omega (arith, h)) (omega (arith, h, e)))
  front_apart flag at bytes rest (suc n) t low end e h all = all flag n low (omega (arith, h)) (omega (arith, h, e))

  from_apart : (flag : Bool) (at n low end : ℕ) (bytes : List ℕ) → at + length bytes ≡ end → low ≤ at + n → low ≤ end
      → StandApart low end (sections_from v m flag at n bytes)
  from_apart flag at n low end [] e h k = k
  from_apart flag at (suc n) low end (b ∷ bs) e h k = from_apart flag (at + 1) n low end bs (omega arith) (omega (arith, h)) k
  from_apart flag at zero low end (b ∷ bs) e h k =
      front_apart flag at (b ∷ bs) (λ set n. sections_from v m set (at + 1) n bs) (v.lexis.separator_length (b ∷ bs))
      (v.lexis.token_length flag (b ∷ bs)) low end e (omega (arith, h))
      (λ set n low i j. from_apart set (at + 1) n low end bs (omega arith) i j)

  sections_apart : (bytes : List ℕ) → StandApart 0 (length bytes) (sections v m bytes)
  sections_apart bytes = from_apart false 0 0 0 (length bytes) bytes (omega arith) (omega arith) (omega arith)

-- so many spaces
abbrev spaces : ℕ → List ℕ
spaces n = replicate n 32

blanked_length : (bytes : List ℕ) (from : ℕ) (found : List Span) → StandApart from (length bytes) found
    → from + length (blanked_from bytes from found) ≡ length bytes
blanked_length bytes from [] h = let left : length (drop from bytes) ≡ length bytes - from = length-drop from bytes
    in omega (arith, left, h)
blanked_length bytes from (s ∷ found) (a, b, h) =
    let rest = blanked_from bytes s.end found in
    let blanks = spaces (s.end - s.at) in
    let front = slice_range bytes from s.at in
    let behind : s.end + length rest ≡ length bytes = blanked_length bytes s.end found h in
    let order : s.end ≤ length bytes = in_order s.end (length bytes) found h in
    let left : length (drop from bytes) ≡ length bytes - from = length-drop from bytes in
    let first : length front ≡ s.at - from = length-take-le (s.at - from) (drop from bytes) (omega (arith, left, order, a, b)) in
    let blank : length blanks ≡ s.end - s.at = length-replicate (s.end - s.at) 32 in
    let two : length (front ++ (blanks ++ rest)) ≡ length front + length (blanks ++ rest) = length-append front (blanks ++ rest)
    in
    let one : length (blanks ++ rest) ≡ length blanks + length rest = length-append blanks rest in
    omega (arith, a, b, behind, order, first, blank, one, two)

-- as long as the text
pub rest_length : (v : Vocabulary) (m : Marks) (bytes : List ℕ) → length (blanked bytes (sections v m bytes)) ≡ length bytes
rest_length v m bytes = let all : 0 + length (blanked bytes (sections v m bytes)) ≡ length bytes =
    blanked_length bytes 0 (sections v m bytes) (sections_apart v m bytes) in omega (arith, all)
