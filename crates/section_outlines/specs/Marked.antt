-- Where sections begin and end, by a token and by the bytes behind it. (How sections are marked is this project's rule.)
use Rattle.std.specs.Prelude.{ℕ, Bool, ◌||◌, List, ◌∷◌}
use Rattle.lexer.specs.Tokens.{Token, Lexis, scan}
use Rattle.driver_sections.specs.Marks.{Vocabulary, Marks, are_next}

-- a token, by the flag before it, and the tokens of the bytes behind it
abbrev pub tokens_with : Lexis → Bool → List ℕ → List ℕ → List Token
tokens_with l flag x rest = record { at = 0; bytes = x } ∷ (scan l (l.flag_after flag x) 0 0 rest).0

-- a token and those behind it begin a section
abbrev pub begins : Vocabulary → Marks → Bool → List ℕ → List ℕ → Bool
begins v m flag x rest = are_next v.is_same m.beginning (tokens_with v.lexis flag x rest)

-- a token and those behind it are the words on that end one
abbrev pub ends_next : Vocabulary → Marks → Bool → List ℕ → List ℕ → Bool
ends_next v m flag x rest = are_next v.is_same m.ending.words (tokens_with v.lexis flag x rest)

-- they mark a beginning or an end
abbrev pub marked : Vocabulary → Marks → Bool → List ℕ → List ℕ → Bool
marked v m flag x rest = begins v m flag x rest || ends_next v m flag x rest
