use Rattle.std.proofs.Common.{not, ap, ◌∙◌, sym, arith}
use Rattle.vhdl_tokens.proofs.SecondBytes.{short, second}
use Rattle.vhdl_tokens.proofs.spelling.could_be_word.Goals as goal

pub returns-then-token-lt2 : goal.returns-then-token-lt2
returns-then-token-lt2 c _ = short c.args.token.now c.if-token-lt2.true

pub returns : goal.returns
returns c e = second c.args.token.now (omega arith) (ap not (sym c.is_second_of_no_word.ensures) ∙ e)
