-- The tokens of a Liberty text, found byte by byte. What they are is said without a machine in `Tokens`.
use Rattle.std.specs.Prelude.{ℕ, ◌+◌, ◌++◌, Bool, true, false, not, List, [], ◌∷◌, Option, Some, None, if◌then◌else◌, ◌==◌}
use Rattle.std.specs.Prelude.{nat_le, ◌&&◌, ◌||◌}
use Rattle.liberty_text.specs.declared.token.TokenKind.{TokenKind}
use Rattle.liberty_text.specs.declared.token.TokenKind.TheVariants.{Word, Text, Brace, Colon, Semicolon, Comma}
use Rattle.liberty_text.specs.declared.token.Token.{Token}
use Rattle.liberty_text.specs.declared.token.Stop.{Stop}
use Rattle.liberty_text.specs.declared.token.Stop.TheVariants.{End, BadByte, OpenText, OpenComment, OpenContinuation}
use Rattle.liberty_text.specs.declared.class.Class.{Class}
use Rattle.liberty_text.specs.declared.class.Class.TheVariants.{LineEnd, Blank, Mark, Quote, Backslash, WordByte, Bad}
use Rattle.liberty_text.specs.declared.scanner.Mode.{Mode}
use Rattle.liberty_text.specs.declared.scanner.Mode.TheVariants.{Between, InWord, InText, InComment, InContinuation, Stopped}

-- what a byte is outside texts and comments
abbrev pub class_of : ℕ → Class
class_of b =
    if b == 10 then LineEnd
    else (if b == 32 || b == 9 || b == 13 then Blank
    else (if b == 123 || b == 125 || b == 40 || b == 41 then Mark (Brace b)
    else (if b == 58 then Mark Colon
    else (if b == 59 then Mark Semicolon
    else (if b == 44 then Mark Comma
    else (if b == 34 then Quote
    else (if b == 92 then Backslash
    else (if nat_le 33 b && nat_le b 126 then WordByte
    else Bad))))))))

-- a token of a kind, from an offset up to another
abbrev pub token : TokenKind → ℕ → ℕ → Bool → Token
token kind at end line = record { kind = kind; at = at; end = end; line_before = line }

-- the slash at an offset, where the byte there is one
abbrev pub slash_at : ℕ → ℕ → Option ℕ
slash_at at b = if b == 47 then Some at else None

-- what stands open after a byte of a class between tokens, and the tokens that it gives
abbrev pub opened_by : Bool → ℕ → ℕ → Class → Mode × List Token
opened_by line at b LineEnd = (Between true, [])
opened_by line at b Blank = (Between line, [])
opened_by line at b (Mark kind) = (Between false, token kind at (at + 1) line ∷ [])
opened_by line at b Quote = (InText at line false, [])
opened_by line at b Backslash = (InContinuation at line, [])
opened_by line at b WordByte = (InWord at line (slash_at at b), [])
opened_by line at b Bad = (Stopped at, [])

abbrev pub opened : Bool → ℕ → ℕ → Mode × List Token
opened line at b = opened_by line at b (class_of b)

-- a token stands before these
abbrev pub after_token : Token → Mode × List Token → Mode × List Token
after_token t (mode, ts) = (mode, t ∷ ts)

-- a byte of this class after those of a word
abbrev pub in_word_by : ℕ → Bool → ℕ → ℕ → Class → Mode × List Token
in_word_by begun line at b WordByte = (InWord begun line (slash_at at b), [])
in_word_by begun line at b _ = after_token (token Word begun at line) (opened false at b)

-- a star after a slash of a word: the word ends before the slash, where a comment begins
abbrev pub comment_in_word : ℕ → Bool → ℕ → Mode × List Token
comment_in_word begun line slash =
    if begun == slash then (InComment slash line false, [])
    else (InComment slash false false, token Word begun slash line ∷ [])

abbrev pub in_word : ℕ → Bool → Option ℕ → ℕ → ℕ → Mode × List Token
in_word begun line None at b = in_word_by begun line at b (class_of b)
in_word begun line (Some slash) at b =
    if b == 42 then comment_in_word begun line slash
    else in_word_by begun line at b (class_of b)

abbrev pub in_text : ℕ → Bool → Bool → ℕ → ℕ → Mode × List Token
in_text begun line escaped at b =
    if b == 34 && not escaped then (Between false, token Text begun (at + 1) line ∷ [])
    else (InText begun line (b == 92), [])

abbrev pub in_comment : ℕ → Bool → Bool → ℕ → Mode × List Token
in_comment begun line star b =
    if b == 47 && star then (Between line, [])
    else (InComment begun (line || b == 10) (b == 42), [])

abbrev pub in_continuation : ℕ → Bool → Class → Mode × List Token
in_continuation begun line LineEnd = (Between line, [])
in_continuation begun line Blank = (InContinuation begun line, [])
in_continuation begun line _ = (Stopped begun, [])

-- what stands open after the byte at an offset, and the tokens that end there
abbrev pub step : Mode → ℕ → ℕ → Mode × List Token
step (Between line) at b = opened line at b
step (InWord begun line slash) at b = in_word begun line slash at b
step (InText begun line escaped) at b = in_text begun line escaped at b
step (InComment begun line star) at b = in_comment begun line star b
step (InContinuation begun line) at b = in_continuation begun line (class_of b)
step (Stopped begun) at b = (Stopped begun, [])

-- the last token and the stop, where the bytes end
abbrev pub closing : Mode → ℕ → List Token × Stop
closing (Between line) at = ([], End)
closing (InWord begun line slash) at = (token Word begun at line ∷ [], End)
closing (InText begun line escaped) at = ([], OpenText begun)
closing (InComment begun line star) at = ([], OpenComment begun)
closing (InContinuation begun line) at = ([], OpenContinuation begun)
closing (Stopped begun) at = ([], BadByte begun)

-- these tokens stand before those
abbrev pub after_tokens : List Token → List Token × Stop → List Token × Stop
after_tokens ts (us, stop) = (ts ++ us, stop)

-- the tokens and the stop of bytes that begin at an offset, where this much stands open
abbrev pub run : Mode → ℕ → List ℕ → List Token × Stop
run mode at [] = closing mode at
run mode at (b ∷ bs) = after_tokens (step mode at b).1 (run (step mode at b).0 (at + 1) bs)

-- the tokens of a text up to the place where it stops, and what stops it there
abbrev pub scan_of : List ℕ → List Token × Stop
scan_of bytes = run (Between false) 0 bytes
