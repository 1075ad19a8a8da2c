-- Tokens as places of a text, and the tokens that they are.
use Rattle.std.specs.Prelude.{ℕ, Bool, List, Option}
pub use Rattle.lexer.specs.Spans.{tokens_of}
use Rattle.lexer.specs.Spans as spans
use Rattle.lexer.specs.declared.span.Span.{Span}
use Rattle.verilog_tokens.specs.Tokens.{Token, lexis}

-- What a scan of a text gives that stands at an offset: the tokens found so far, and those that begin from there on, where no
-- token begins before the offset `next`. The flag says whether a table is open.
abbrev pub from_here : List ℕ → List Span → Bool → ℕ → ℕ → List Token × Option ℕ
from_here = spans.from_here lexis
