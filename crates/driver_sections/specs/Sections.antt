-- The sections of a text. A section may stand wherever a blank may, and the tokens around it are those of the text without it;
-- its own tokens are those of its bytes alone. (That a file of models may hold sections, and how they are marked, is this
-- project's rule.)
use Rattle.std.specs.Prelude.{ℕ, zero, suc, ◌+◌, ◌-◌, ◌≤◌, Bool, false, if◌then◌else◌, List, [], ◌∷◌, ◌++◌, length, take, drop}
use Rattle.std.specs.Prelude.{replicate, slice_get, slice_range, unwrap_or}
use Rattle.lexer.specs.Tokens.{scan, scan_of}
use Rattle.lexer.specs.declared.span.Span.{Span}
use Rattle.driver_sections.specs.Marks.{Vocabulary, Marks, are_next, ends}

-- How many bytes of a section stand at the front of these, where one begins. Without an end it goes on to the end of the text.
abbrev pub section_length : Vocabulary → Marks → List ℕ → ℕ
section_length v m bytes = unwrap_or (slice_get (ends v.is_same m.ending false (scan_of v.lexis bytes).0) 0) (length bytes)

-- the tokens from an offset on, where a token begins, are those that begin a section
abbrev pub begins_section : Vocabulary → Marks → Bool → ℕ → List ℕ → Bool
begins_section v m flag at bytes = are_next v.is_same m.beginning (scan v.lexis flag at 0 bytes).0

-- A token that begins at an offset begins a section, behind which all goes on as before it, or stands for itself.
abbrev pub at_token : Vocabulary → Marks → Bool → ℕ → List ℕ → (Bool → ℕ → List Span) → ℕ → List Span
at_token v m flag at bytes rest n =
    if begins_section v m flag at bytes
    then record { at = at; end = at + section_length v m bytes } ∷ rest flag (section_length v m bytes - 1)
    else rest (v.lexis.flag_after flag (take (suc n) bytes)) n

-- The sections from an offset on that stands outside a token, by those behind the separator, the token or the section that begins
-- there. Behind a lexical fault there is none.
abbrev pub at_front : Vocabulary → Marks → Bool → ℕ → List ℕ → (Bool → ℕ → List Span) → ℕ → ℕ → List Span
at_front v m flag at bytes rest zero zero = []
at_front v m flag at bytes rest zero (suc n) = at_token v m flag at bytes rest n
at_front v m flag at bytes rest (suc n) _ = rest flag n

-- The sections of bytes that begin at an offset, where so many of them belong to what stands before.
abbrev pub sections_from : Vocabulary → Marks → Bool → ℕ → ℕ → List ℕ → List Span
sections_from v m flag at n [] = []
sections_from v m flag at (suc n) (b ∷ bs) = sections_from v m flag (at + 1) n bs
sections_from v m flag at zero (b ∷ bs) =
    at_front v m flag at (b ∷ bs) (λ set n. sections_from v m set (at + 1) n bs)
    (v.lexis.separator_length (b ∷ bs)) (v.lexis.token_length flag (b ∷ bs))

-- the sections of a text
abbrev pub sections : Vocabulary → Marks → List ℕ → List Span
sections v m bytes = sections_from v m false 0 0 bytes

-- The bytes from an offset on with spaces in the place of these sections, which stand one behind the other.
abbrev pub blanked_from : List ℕ → ℕ → List Span → List ℕ
blanked_from bytes from [] = drop from bytes
blanked_from bytes from (s ∷ sections) =
    slice_range bytes from s.at ++ (replicate (s.end - s.at) 32 ++ blanked_from bytes s.end sections)

-- the rest of a text: its bytes with spaces in the place of these sections
abbrev pub blanked : List ℕ → List Span → List ℕ
blanked bytes sections = blanked_from bytes 0 sections

-- sections stand one behind the other from an offset on, up to another
abbrev pub StandApart : ℕ → ℕ → List Span → Type 0
StandApart from to [] = from ≤ to
StandApart from to (s ∷ sections) = (from ≤ s.at) × (s.at ≤ s.end) × StandApart s.end to sections

-- the bytes of a section
abbrev pub text_of : List ℕ → Span → List ℕ
text_of bytes s = slice_range bytes s.at s.end
