-- The second bytes of the words of VHDL.
use Rattle.std.specs.Prelude.{ℕ, Bool, codes}
use Rattle.std.specs.Char.{to_ascii_lowercase}
use Rattle.vhdl_tokens.specs.Tokens.{is_one_of}

-- the byte is the second of no word, whatever the case of its letter
abbrev pub is_second_of_no_word : ℕ → Bool
is_second_of_no_word b = is_one_of (codes "dgjkqvwz123456789_") (to_ascii_lowercase b)
