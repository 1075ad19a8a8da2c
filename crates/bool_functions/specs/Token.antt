-- The tokens of a function text. Which bytes are blanks, and that a run of letters, digits and `_` is one token, is this
-- project's rule; the Liberty Reference Manual leaves it open.
use Rattle.std.specs.Prelude.{ℕ, ◌+◌, Bool, false, not, ◌&&◌, ◌||◌, ◌==◌, List, [], ◌∷◌, length, map, filter, slice_range, codes}
use Rattle.std.specs.Prelude.{Option, None, Some, unwrap_or, All, ◌<◌, ◌≤◌, slice_get, if◌then◌else◌}
use Rattle.std.specs.Char.{is_ascii_digit, is_ascii_alphanumeric, char_set_contains}
use Rattle.bool_functions.specs.declared.tokens.Span.{Span}
use Rattle.bool_functions.specs.declared.symbol.Symbol.{Symbol}
use Rattle.bool_functions.specs.declared.symbol.Symbol.TheVariants as symbol
use Rattle.bool_functions.specs.NameList.{number_of}

-- space, tab and line feed may stand between tokens
abbrev pub is_blank : ℕ → Bool
is_blank b = b == 32 || (b == 9 || b == 10)

-- letters, digits and `_`
abbrev pub is_word_byte : ℕ → Bool
is_word_byte b = is_ascii_alphanumeric b || b == 95

abbrev pub begins_word : List ℕ → Bool
begins_word [] = false
begins_word (b ∷ s) = is_word_byte b

abbrev pub span : ℕ → ℕ → Span
span start end = record { start = start; end = end }

-- the first token begins earlier
abbrev pub grown : ℕ → List Span → List Span
grown start [] = []
grown start (t ∷ ts) = span start t.end ∷ ts

-- The tokens of a text whose first byte is at an offset: each longest run of letters, digits and `_`, and each other
-- byte that is no blank.
abbrev pub spans_from : ℕ → List ℕ → List Span
spans_from at [] = []
spans_from at (b ∷ s) =
    if is_word_byte b then (if begins_word s then grown at (spans_from (at + 1) s) else span at (at + 1) ∷ spans_from (at + 1) s)
    else (if is_blank b then spans_from (at + 1) s else span at (at + 1) ∷ spans_from (at + 1) s)

abbrev pub spans : List ℕ → List Span
spans text = spans_from 0 text

-- the run that began at an offset, if one did, and ends before another
abbrev pub run_before : Option ℕ → ℕ → List Span
run_before None end = []
run_before (Some start) end = span start end ∷ []

-- each of these tokens has a byte, and lies in the text
abbrev pub LieIn : List ℕ → List Span → Type 0
LieIn text ts = All (λ t. (t.start < t.end) × (t.end ≤ length text)) ts

-- the bytes of a token
abbrev pub bytes_at : List ℕ → Span → List ℕ
bytes_at text t = slice_range text t.start t.end

-- name = (letter | "_") { letter | digit | "_" }
abbrev pub is_name : List ℕ → Bool
is_name [] = false
is_name (b ∷ s) = is_word_byte b && not (is_ascii_digit b)

-- the names in a text, in its order
abbrev pub words_of : List ℕ → List Span → List (List ℕ)
words_of text ts = filter is_name (map (bytes_at text) ts)

abbrev pub words : List ℕ → List (List ℕ)
words text = words_of text (spans text)

-- what a single byte stands for
abbrev pub mark_of : ℕ → Symbol
mark_of b =
    if b == 33 then symbol.Bang else (if b == 39 then symbol.Quote else (if b == 94 then symbol.Caret else
    (if char_set_contains (codes "*&") b then symbol.Times else (if char_set_contains (codes "+|") b then symbol.Plus else
    (if b == 40 then symbol.Open else (if b == 41 then symbol.Close else symbol.Stray))))))

-- a run that begins with a digit is `0` or `1`, or nothing of the grammar
abbrev pub digit_of : ℕ → List ℕ → Symbol
digit_of b [] = if b == 48 then symbol.Zero else (if b == 49 then symbol.One else symbol.Stray)
digit_of b (c ∷ s) = symbol.Stray

-- What a token stands for, over a list of names. A name that is not in the list has the
-- list's length for its number: such names are judged apart.
abbrev pub symbol_of : List (List ℕ) → List ℕ → Symbol
symbol_of names [] = symbol.Stray
symbol_of names (b ∷ s) =
    if is_ascii_digit b then digit_of b s
    else (if is_word_byte b then symbol.Name (unwrap_or (number_of names (b ∷ s)) (length names)) else mark_of b)

-- the symbols of a text over a list of names
abbrev pub symbols : List (List ℕ) → List ℕ → List Symbol
symbols names text = map (λ t. symbol_of names (bytes_at text t)) (spans text)

-- the offset of a token by its number, or the text's length where there is none
abbrev pub offset_of : List ℕ → ℕ → ℕ
offset_of text n = unwrap_or (slice_get (map (λ t. t.start) (spans text)) n) (length text)
