use Rattle.std.proofs.Common.{refl}
use Rattle.vhdl_tokens.specs.Words.{is_used, used_words}
use Rattle.vhdl_tokens.proofs.words.is_used.Goals as goal

pub returns : goal.returns
unfolding is_used used_words
returns c = c.is_in.ensures refl
