-- What a quoted text stands for (Liberty Reference Manual, general syntax: strings and line continuation).
use Rattle.std.specs.Prelude.{◌≡◌, ◌≢◌, ◌↔◌, ℕ, ◌+◌, ◌++◌, zero, suc, Bool, true, false, List, [], ◌∷◌, Option, Some, None}
use Rattle.std.specs.Prelude.{if◌then◌else◌, ◌==◌}
use Rattle.std.specs.List.{list_any}
use Rattle.liberty_text.specs.declared.class.Class.{Class}
use Rattle.liberty_text.specs.declared.class.Class.TheVariants.{LineEnd, Blank}
use Rattle.liberty_text.specs.Scanner.{class_of}
use Rattle.liberty_text.specs.Tokens.{AreBlanks, TextBytes}

-- how many bytes blanks and the line end behind them are, where a list of bytes begins with such;
-- so many of its bytes were blanks already
abbrev pub blank_line_by : Class → ℕ → Option ℕ → Option ℕ
blank_line_by LineEnd passed more = Some (passed + 1)
blank_line_by Blank passed more = more
blank_line_by _ passed more = None

abbrev pub blank_line_behind : ℕ → List ℕ → Option ℕ
blank_line_behind passed [] = None
blank_line_behind passed (b ∷ bs) = blank_line_by (class_of b) passed (blank_line_behind (passed + 1) bs)

abbrev pub blank_line : List ℕ → Option ℕ
blank_line bytes = blank_line_behind 0 bytes

-- the bytes begin with a double quote
abbrev pub begins_with_quote : List ℕ → Bool
begins_with_quote [] = false
begins_with_quote (b ∷ bs) = b == 34

-- what a backslash before these bytes stands for, and how many of them go with it: nothing, with
-- blanks and a line end; a double quote, with one; itself, with none
abbrev pub behind_backslash : Option ℕ → Bool → List ℕ × ℕ
behind_backslash (Some n) quote = ([], n)
behind_backslash None true = (34 ∷ [], 1)
behind_backslash None false = (92 ∷ [], 0)

-- what a byte before these stands for, and how many of them go with it
abbrev pub piece : ℕ → List ℕ → List ℕ × ℕ
piece b bs =
    if b == 10 then (32 ∷ [], 0)
    else (if b == 92 then behind_backslash (blank_line bs) (begins_with_quote bs)
    else (b ∷ [], 0))

-- the value of the bytes of a text between its quotes, behind the first few
abbrev pub value_behind : ℕ → List ℕ → List ℕ
value_behind n [] = []
value_behind (suc n) (b ∷ bs) = value_behind n bs
value_behind zero (b ∷ bs) = (piece b bs).0 ++ value_behind (piece b bs).1 bs

-- the value of the bytes of a text between its quotes
abbrev pub value_of : List ℕ → List ℕ
value_of bytes = value_behind 0 bytes

-- The same by rules: a backslash with blanks and a line end vanishes, a line end without one stands
-- for a space, a backslash with a double quote for the quote, and any other byte for itself.
pub data StandsFor : List ℕ → List ℕ → Type 0 where
  nothing : StandsFor [] []
  continued : {bs value : List ℕ} (blanks rest : List ℕ) → AreBlanks blanks → bs ≡ 92 ∷ blanks ++ (10 ∷ rest) →
      StandsFor rest value → StandsFor bs value
  space : {rest value : List ℕ} → StandsFor rest value → StandsFor (10 ∷ rest) (32 ∷ value)
  quote : {rest value : List ℕ} → StandsFor rest value → StandsFor (92 ∷ 34 ∷ rest) (34 ∷ value)
  itself : {b : ℕ} {rest value : List ℕ} → b ≢ 10 →
      (b ≡ 92 → (blanks more : List ℕ) → AreBlanks blanks → rest ≡ blanks ++ (10 ∷ more) → ⊥) →
      (b ≡ 92 → (more : List ℕ) → rest ≡ 34 ∷ more → ⊥) →
      StandsFor rest value → StandsFor (b ∷ rest) (b ∷ value)

-- bytes between quotes stand for one value
abbrev pub HaveOneValue : List ℕ → Type 0
HaveOneValue bytes = (value : List ℕ) → StandsFor bytes value ↔ (value_of bytes ≡ value)

-- a value as it is written between quotes: a backslash before each double quote
abbrev pub quoted : List ℕ → List ℕ
quoted [] = []
quoted (b ∷ bs) = if b == 34 then 92 ∷ 34 ∷ quoted bs else b ∷ quoted bs

-- the last of the bytes is a backslash; of no bytes, the one before them is
abbrev pub ends_in_backslash : Bool → List ℕ → Bool
ends_in_backslash before [] = before
ends_in_backslash before (b ∷ bs) = ends_in_backslash (b == 92) bs

-- the value holds no line feed and does not end in a backslash
pub record IsQuotable (value : List ℕ) : Type 0 where
  pub one_line : list_any (λ b. b == 10) value ≡ false
  pub closes : ends_in_backslash false value ≡ false

-- what a value is written as between quotes stands for the value, and the text ends where its quote stands
pub record ReadsBack (value : List ℕ) : Type 0 where
  pub same : value_of (quoted value) ≡ value
  pub closes : TextBytes false false (quoted value)

abbrev pub QuotesReadBack : List ℕ → Type 0
QuotesReadBack value = IsQuotable value ↔ ReadsBack value
