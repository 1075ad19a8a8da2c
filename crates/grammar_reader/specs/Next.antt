-- The next of some tokens, and those behind it.
use Rattle.std.specs.Prelude.{ℕ, Bool, false, List, [], ◌∷◌}

-- the bytes of the next token; none where there is none
abbrev pub next_bytes : List (List ℕ) → List ℕ
next_bytes [] = []
next_bytes (x ∷ s) = x

-- the next token stands for this word
abbrev pub is_next : (List ℕ → List ℕ → Bool) → List ℕ → List (List ℕ) → Bool
is_next is_same word [] = false
is_next is_same word (x ∷ s) = is_same x word

-- the next token is a name
abbrev pub is_next_name : (List ℕ → Bool) → List (List ℕ) → Bool
is_next_name is_name [] = false
is_next_name is_name (x ∷ s) = is_name x

abbrev pub rest : List (List ℕ) → List (List ℕ)
rest [] = []
rest (x ∷ s) = s
