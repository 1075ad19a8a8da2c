-- What a word of a line of a trace tells of an output or of a check. This project's format.
use Rattle.std.specs.Prelude.{ℕ, ◌==◌, ◌||◌, Bool, List, [], ◌∷◌, Option, Some, None, if◌then◌else◌}
use Rattle.std.specs.Option.{option_and_then}
use Rattle.lexer.specs.Numbers.{is_number, number_of}
use Rattle.wave_reports.specs.declared.signs.Sign.{Sign as Borrowed}
use Rattle.wave_reports.specs.Pieces.{cut_last}

-- What is told: `=` for a level and `!` for an event, a name, the value, and how many picoseconds after the change it shows,
-- where it is new.
pub record Sign : Type 0 where
  pub mark : ℕ
  pub name : List ℕ
  pub value : ℕ
  pub delay : Option ℕ

-- what stands behind the reference to the name
abbrev pub seen : Borrowed → Sign
seen s = record { mark = s.mark; name = s.name.now; value = s.value; delay = s.delay }

-- a level as it is printed: 0, 1, x or z (IEEE 1364-2005, 18.2.1)
abbrev pub is_value : ℕ → Bool
is_value b = b == 48 || (b == 49 || (b == 120 || b == 122))

-- a level with the delay that stands behind it
abbrev pub level : List ℕ → ℕ → Option ℕ → Option Sign
level name value delay = if is_value value then Some (record { mark = 61; name = name; value = value; delay = delay }) else None

-- what stands behind the name of an output: the value, and `@` with the delay where it is new
abbrev pub level_sign : List ℕ → List ℕ → Option Sign
level_sign name [] = None
level_sign name (value ∷ []) = level name value None
level_sign name (value ∷ (at ∷ digits)) =
    if at == 64 then option_and_then (λ delay. level name value (Some delay)) (number_of digits) else None

-- a check that reports: `!` and its number
abbrev pub report_sign : List ℕ → Option Sign
report_sign [] = None
report_sign (first ∷ number) =
    if first == 33 then (if is_number number then Some (record { mark = 33; name = number; value = 49; delay = Some 0 })
    else None) else None

-- with the name ahead of the last `=`, which is not empty, or without
abbrev pub sign_with : Option (List ℕ) → List ℕ → Option Sign
sign_with (Some []) text = None
sign_with (Some (b ∷ name)) text = level_sign (b ∷ name) text
sign_with None text = report_sign text

-- what a word tells
abbrev pub sign_of : List ℕ → Option Sign
sign_of word = sign_with (cut_last 61 word).0 (cut_last 61 word).1
