-- What a line of a trace tells. This project's format.
use Rattle.std.specs.Prelude.{ℕ, ◌==◌, ◌||◌, Bool, List, [], ◌∷◌, codes, Option, Some, None, is_some, if◌then◌else◌}
use Rattle.std.specs.Option.{option_map, option_and_then, option_copied}
use Rattle.std.specs.List.{list_all}
use Rattle.std.specs.Str.{bytes_eq}
use Rattle.lexer.specs.Numbers.{number_of}
use Rattle.wave_reports.specs.declared.traces.Trace.{Trace as Borrowed}
use Rattle.wave_reports.specs.declared.traces.Input.{Input as BorrowedInput}
use Rattle.wave_reports.specs.Pieces.{pieces, pieces_left}
use Rattle.wave_reports.specs.Signs.{is_value, sign_of}

-- an input and the level that it is given
pub record Input : Type 0 where
  pub name : List ℕ
  pub value : ℕ

-- The tag, the time in picoseconds, the change but for the start, and the words of the outputs and of the checks.
pub record Trace : Type 0 where
  pub tag : ℕ
  pub at : ℕ
  pub change : Option Input
  pub words : List (List ℕ)

abbrev pub seen_input : BorrowedInput → Input
seen_input i = record { name = i.name.now; value = i.value }

-- what stands behind the references
abbrev pub seen : Borrowed → Trace
seen t = record {
  tag = t.tag;
  at = t.at;
  change = option_map seen_input t.change;
  words =
      pieces_left 32 (option_copied t.words);
}

-- the cell's line has the tag `L`, the module's `V` and the entity's `H`
abbrev pub is_tag : ℕ → Bool
is_tag b = b == 76 || (b == 86 || b == 72)

abbrev pub tag_of : List ℕ → Option ℕ
tag_of (b ∷ []) = if is_tag b then Some b else None
tag_of _ = None

abbrev pub value_of : List ℕ → Option ℕ
value_of (b ∷ []) = if is_value b then Some b else None
value_of _ = None

-- words that tell something of outputs and of checks, behind a colon
abbrev pub behind_change : ℕ → ℕ → Option Input → List (List ℕ) → Option Trace
behind_change tag at change [] = None
behind_change tag at change (colon ∷ words) =
    if bytes_eq colon (codes ":") then
    (if list_all (λ word. is_some (sign_of word)) words then Some (record { tag = tag; at = at; change = change; words = words })
    else None)
    else None

-- behind a change's time: the name of an input, which is not empty, and a level
abbrev pub changed : ℕ → ℕ → List (List ℕ) → Option Trace
changed tag at ([] ∷ words) = None
changed tag at ((b ∷ name) ∷ (value ∷ words)) =
    option_and_then (λ value. behind_change tag at (Some (record { name = b ∷ name; value = value })) words) (value_of value)
changed tag at _ = None

-- behind the tag: `start`, or the time of a change
abbrev pub behind_tag : ℕ → List (List ℕ) → Option Trace
behind_tag tag [] = None
behind_tag tag (first ∷ words) =
    if bytes_eq first (codes "start") then behind_change tag 0 None words
    else option_and_then (λ at. changed tag at words) (number_of first)

abbrev pub trace_words : List (List ℕ) → Option Trace
trace_words [] = None
trace_words (first ∷ words) = option_and_then (λ tag. behind_tag tag words) (tag_of first)

-- what a line tells
abbrev pub trace_of : List ℕ → Option Trace
trace_of line = trace_words (pieces 32 line)
