-- What holds of every text of a language.
use Rattle.std.specs.Prelude.{false, List, ℕ}
use Rattle.lexer.specs.Cover.{Spelling, IsCovered}
use Rattle.lexer.specs.Places.{StandInOrder}
use Rattle.lexer.specs.Separators.{IsSeparation, Padded, HaveSameTokens}

-- Its tokens, with only separators between them, are its bytes up to its lexical fault, and no token can be longer. They stand in
-- it one behind the other, and the fault behind them. Blanks, line ends and comments that are added between them change none.
pub record Lawful (l : Spelling) : Type 0 where
  pub covered : (text : List ℕ) → IsCovered l text
  pub in_order : (text : List ℕ) → StandInOrder l.lexis text
  pub same_tokens : (text padded : List ℕ) → Padded l.lexis (IsSeparation l.IsComment) false text padded
      → HaveSameTokens l.lexis text padded
