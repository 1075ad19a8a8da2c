-- What a token stands for that is one of two words.
use Rattle.std.specs.Prelude.{ℕ, if◌then◌else◌, List, Option, Some, None}
use Rattle.vhdl_tokens.specs.Spelling.{is_same}

abbrev pub either_word : {A : Type 0} → List ℕ → A → List ℕ → A → List ℕ → Option A
either_word first one second other x = if is_same x first then Some one else (if is_same x second then Some other else None)
