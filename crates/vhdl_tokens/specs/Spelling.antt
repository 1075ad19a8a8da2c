-- When two tokens of VHDL text stand for the same.
use Rattle.std.specs.Prelude.{ℕ, ◌-◌, Bool, false, ◌&&◌, ◌==◌, if◌then◌else◌, List, [], ◌∷◌, length, take}
use Rattle.std.specs.Str.{bytes_eq, str_eq_ignore_ascii_case}

-- the token begins with an apostrophe: it is a character literal, or a tick
abbrev pub is_character : List ℕ → Bool
is_character [] = false
is_character (b ∷ bs) = b == 39

-- the token is a string
abbrev pub is_string : List ℕ → Bool
is_string [] = false
is_string (b ∷ bs) = b == 34

-- what stands between the quotation marks of a string
abbrev pub text_of : List ℕ → List ℕ
text_of [] = []
text_of (_ ∷ bs) = take (length bs - 1) bs

-- the token is a string of these bytes, whatever the case of their letters
abbrev pub is_quoted : List ℕ → List ℕ → Bool
is_quoted token bytes = is_string token && str_eq_ignore_ascii_case (text_of token) bytes

-- two texts are alike: equal, where they have to be exact, and else the same whatever the case of their letters
abbrev pub are_alike : Bool → List ℕ → List ℕ → Bool
are_alike exact text other = if exact then bytes_eq text other else str_eq_ignore_ascii_case text other

-- Names and words are the same whatever the case of their letters (IEEE 1076-1993, 13.3.1 and 13.9). A character literal is the
-- same as itself alone (13.5).
abbrev pub is_same : List ℕ → List ℕ → Bool
is_same token word = are_alike (is_character token) token word
