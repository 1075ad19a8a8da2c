-- The laws of a language's texts, from what must be known of it.
use Rattle.lexer.specs.Cover.{Spelling}
use Rattle.lexer.specs.Laws.{Lawful}
use Rattle.lexer.proofs.Covered.{Finds, covered}
use Rattle.lexer.proofs.Padding.{Lets, same_tokens}
use Rattle.lexer.proofs.Standing.{stand_in_order}

pub lawful : (l : Spelling) → Finds l → Lets l.lexis l.IsComment → Lawful l
lawful l finds lets = record {
  covered = covered l finds;
  in_order = stand_in_order l.lexis;
  same_tokens =
      same_tokens l.lexis l.IsComment lets;
}
