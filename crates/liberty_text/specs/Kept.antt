-- A token in two numbers: where it begins, and its kind, its length and its flag in one.
use Rattle.std.specs.Prelude.{ℕ, Bool, true, false, ◌+◌, ◌/◌, ◌%◌, ◌==◌, ◌||◌, if◌then◌else◌}
use Rattle.liberty_text.specs.declared.token.TokenKind.{TokenKind}
use Rattle.liberty_text.specs.declared.token.TokenKind.TheVariants.{Word, Text, Brace, Colon, Semicolon, Comma}
use Rattle.liberty_text.specs.declared.token.Token.{Token}

-- the kind with a code; what stands beside the code is the byte of a brace
abbrev pub kind_by : ℕ → ℕ → TokenKind
kind_by code amount =
    if code == 0 then Word
    else (if code == 1 then Text
    else (if code == 2 then Brace (amount % 256)
    else (if code == 3 then Colon
    else (if code == 4 then Semicolon
    else Comma))))

-- how many bytes a token has; what stands beside the code is the length of a Word or a text
abbrev pub size_by : ℕ → ℕ → ℕ
size_by code amount = if code == 0 || code == 1 then amount else 1

abbrev pub token_by : ℕ → ℕ → ℕ → ℕ → Token
token_by at code amount line = record {
  kind = kind_by code amount;
  at = at;
  end = at + size_by code amount;
  line_before =
      line == 1;
}

abbrev pub unpacked : ℕ → ℕ → Token
unpacked at rest = token_by at (rest / 2 % 8) (rest / 2 / 8) (rest % 2)

-- the code of a kind
abbrev pub code_of : TokenKind → ℕ
code_of Word = 0
code_of Text = 1
code_of (Brace byte) = 2
code_of Colon = 3
code_of Semicolon = 4
code_of Comma = 5

-- a token of this kind may have any number of bytes
abbrev pub is_run : TokenKind → Bool
is_run Word = true
is_run Text = true
is_run _ = false
