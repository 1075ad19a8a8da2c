-- Bytes that are gone past at once.
use Rattle.std.specs.Prelude.{ℕ, ◌≡◌, ◌<◌, ◌≤◌, ◌++◌, Bool, true, false, List, [], take, length}
use Rattle.liberty_text.specs.declared.passing.Passed.{Passed}
use Rattle.liberty_text.specs.declared.scanner.Scanner.{Scanner}
use Rattle.liberty_text.specs.declared.scanner.Mode.{Mode}
use Rattle.liberty_text.specs.declared.scanner.Mode.TheVariants.{Between}
use Rattle.liberty_text.specs.Runs.{mode_behind, tokens_ended, has_mark}

-- No token ends with the first so many bytes, which begin at an offset, and this much stands open behind them.
abbrev pub IsQuiet : Mode → ℕ → List ℕ → ℕ → Mode → Type 0
IsQuiet mode at bytes n behind = (behind ≡ mode_behind mode at (take n bytes)) × (tokens_ended mode at (take n bytes) ≡ [])

-- The first so many bytes may stand between tokens, and no line ends among them.
abbrev pub AreBlank : List ℕ → ℕ → Type 0
AreBlank bytes n = (line : Bool) (at : ℕ) → IsQuiet (Between line) at bytes n (Between line)

-- What is said of bytes that were gone past is so: of them only the last may have ended a token. The tokens that ended are kept.
pub record Passes (mode : Mode) (at : ℕ) (bytes : List ℕ) (before behind : Scanner) (passed : Passed) : Type 0 where
  pub some : 0 < passed.count
  pub within : passed.count ≤ length bytes
  pub tokens_are : behind.tokens.items ≡ before.tokens.items ++ tokens_ended mode at (take passed.count bytes)
  pub none_before : (n : ℕ) → n < passed.count → tokens_ended mode at (take n bytes) ≡ []
  pub goes_on : passed.goes_on ≡ true → Between passed.line_before ≡ mode_behind mode at (take passed.count bytes)
  pub unmarked : passed.goes_on ≡ true → has_mark (tokens_ended mode at (take passed.count bytes)) ≡ false
  pub ends : passed.goes_on ≡ false → behind.mode ≡ mode_behind mode at (take passed.count bytes)
