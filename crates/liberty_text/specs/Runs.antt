-- Several bytes that are read at once.
use Rattle.std.specs.Prelude.{ℕ, ◌+◌, ◌++◌, ◌==◌, ◌||◌, Bool, true, false, List, [], ◌∷◌}
use Rattle.liberty_text.specs.declared.token.Token.{Token}
use Rattle.liberty_text.specs.declared.token.TokenKind.{TokenKind}
use Rattle.liberty_text.specs.declared.token.TokenKind.TheVariants.{Brace, Semicolon}
use Rattle.liberty_text.specs.declared.scanner.Mode.{Mode}
use Rattle.liberty_text.specs.Scanner.{step}

-- what stands open behind bytes that begin at an offset, where this much stands open before them
abbrev pub mode_behind : Mode → ℕ → List ℕ → Mode
mode_behind mode at [] = mode
mode_behind mode at (b ∷ bs) = mode_behind (step mode at b).0 (at + 1) bs

-- the tokens that end with these bytes
abbrev pub tokens_ended : Mode → ℕ → List ℕ → List Token
tokens_ended mode at [] = []
tokens_ended mode at (b ∷ bs) = (step mode at b).1 ++ tokens_ended (step mode at b).0 (at + 1) bs

-- "{", "}" or ";"
abbrev pub is_group_mark : TokenKind → Bool
is_group_mark (Brace byte) = byte == 123 || byte == 125
is_group_mark Semicolon = true
is_group_mark _ = false

-- one of the tokens is such a mark
abbrev pub has_mark : List Token → Bool
has_mark [] = false
has_mark (t ∷ tokens) = is_group_mark t.kind || has_mark tokens
