-- Bytes that are scanned.
use Rattle.std.specs.Prelude.{◌≡◌, ℕ, ◌+◌, ◌<◌, false, List, [], ◌∷◌, ◌++◌, take, length, Option, Some, None, if◌then◌else◌}
use Rattle.liberty_text.specs.declared.token.Token.{Token}
use Rattle.liberty_text.specs.declared.token.TokenKind.{TokenKind}
use Rattle.liberty_text.specs.declared.token.Stop.{Stop}
use Rattle.liberty_text.specs.declared.token.Stop.TheVariants.{End, BadByte, OpenText, OpenComment, OpenContinuation}
use Rattle.liberty_text.specs.declared.scanner.Mode.{Mode}
use Rattle.liberty_text.specs.declared.scanner.Mode.TheVariants.{Between}
use Rattle.liberty_text.specs.Scanner.{run, after_tokens}
use Rattle.liberty_text.specs.Runs.{tokens_ended, is_group_mark}
use Rattle.cell_cursor.specs.declared.part.Place.{Place}
use Rattle.cell_cursor.specs.Braces.{has_outer, kinds_of}

-- Part of a library: how many bytes stand before it, its bytes, the tokens that have ended in it, what stands open behind
-- them, and how many of its braces are open.
pub record Scanned : Type 0 where
  pub before : ℕ
  pub bytes : List ℕ
  pub tokens : List Token
  pub mode : Mode
  pub depth : ℕ

-- Whatever follows these bytes: the tokens of all are these tokens, and then those of what follows, where this much stands
-- open.
abbrev pub AreScanned : List ℕ → List Token → Mode → Type 0
AreScanned bytes tokens mode = (more : List ℕ)
    → run (Between false) 0 (bytes ++ more) ≡ after_tokens tokens (run mode (length bytes) more)

-- With fewer than so many of the bytes that follow these no outer brace ends.
abbrev pub NoneOuter : Place → List ℕ → List ℕ → ℕ → Type 0
NoneOuter here bytes more count = (n : ℕ) → n < count → (tokens : List Token) × (mode : Mode)
    × AreScanned (bytes ++ take n more) tokens mode × (has_outer here (kinds_of tokens) ≡ false)

-- The same of the tokens that have ended before them, where this much stands open behind those.
abbrev pub NoneOuterEnds : Place → List Token → Mode → ℕ → List ℕ → ℕ → Type 0
NoneOuterEnds here tokens mode at more count = (n : ℕ) → n < count
    → has_outer here (kinds_of (tokens ++ tokens_ended mode at (take n more))) ≡ false

-- a stop in bytes that so many others stand before
abbrev pub stop_behind : ℕ → Stop → Stop
stop_behind n End = End
stop_behind n (BadByte at) = BadByte (at + n)
stop_behind n (OpenText at) = OpenText (at + n)
stop_behind n (OpenComment at) = OpenComment (at + n)
stop_behind n (OpenContinuation at) = OpenContinuation (at + n)

-- a kind, where it is that of a brace of a group or of a semicolon
abbrev pub mark_of : TokenKind → Option TokenKind
mark_of kind = if is_group_mark kind then Some kind else None

-- the kind of the last of the tokens, where it is such a mark
abbrev pub last_mark : List Token → Option TokenKind
last_mark [] = None
last_mark (t ∷ []) = mark_of t.kind
last_mark (t ∷ u ∷ tokens) = last_mark (u ∷ tokens)
