-- The outline of a text: its bytes with spaces in the place of its sections, and the texts of these, without their places.
use Rattle.std.specs.Prelude.{ℕ, zero, suc, ◌-◌, Bool, if◌then◌else◌, List, [], ◌∷◌, ◌++◌, take, replicate}
use Rattle.driver_sections.specs.Marks.{Vocabulary, Marks}
use Rattle.driver_sections.specs.Sections.{section_length, begins_section}

-- the bytes with spaces in the place of sections, and the sections
abbrev pub Outline : Type 0
Outline = List ℕ × List (List ℕ)

-- with bytes before it that are of no section
abbrev pub with_bytes : List ℕ → Outline → Outline
with_bytes front outline = (front ++ outline.0, outline.1)

-- with a section of so many bytes before it
abbrev pub with_section : ℕ → List ℕ → Outline → Outline
with_section n section outline = (replicate n 32 ++ outline.0, section ∷ outline.1)

-- A token begins a section, behind which all goes on as before it, or stands for itself.
abbrev pub at_token : Vocabulary → Marks → Bool → List ℕ → (Bool → ℕ → Outline) → ℕ → Outline
at_token v m flag bytes rest n =
    if begins_section v m flag 0 bytes
    then with_section (section_length v m bytes) (take (section_length v m bytes) bytes)
    (rest flag (section_length v m bytes - 1))
    else with_bytes (take (suc n) bytes) (rest (v.lexis.flag_after flag (take (suc n) bytes)) n)

-- The outline of bytes that stand outside a token, by that of those behind the separator, the token or the section that begins
-- there. Behind a lexical fault there is no section.
abbrev pub at_front : Vocabulary → Marks → Bool → List ℕ → (Bool → ℕ → Outline) → ℕ → ℕ → Outline
at_front v m flag bytes rest zero zero = (bytes, [])
at_front v m flag bytes rest zero (suc n) = at_token v m flag bytes rest n
at_front v m flag bytes rest (suc n) _ = with_bytes (take (suc n) bytes) (rest flag n)

-- The outline of bytes, where so many of them belong to what stands before and are no part of it.
abbrev pub outline : Vocabulary → Marks → Bool → ℕ → List ℕ → Outline
outline v m flag n [] = ([], [])
outline v m flag (suc n) (b ∷ bs) = outline v m flag n bs
outline v m flag zero (b ∷ bs) =
    at_front v m flag (b ∷ bs) (λ set n. outline v m set n bs)
    (v.lexis.separator_length (b ∷ bs)) (v.lexis.token_length flag (b ∷ bs))
