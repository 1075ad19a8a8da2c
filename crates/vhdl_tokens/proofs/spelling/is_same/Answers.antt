use Rattle.std.proofs.Common.{sym, ◌∙◌, ne_eqb, length}
use Rattle.vhdl_tokens.proofs.SameBytes.{unlike}
use Rattle.vhdl_tokens.proofs.spelling.is_same.Goals as goal

pub returns-else-token-word : goal.returns-else-token-word
returns-else-token-word c =
    ne_eqb (length c.args.token.now) (length c.args.word.now) c.if-token-word.false
    ∙ sym (unlike c.args.token.now c.args.word.now c.if-token-word.false)
