use Rattle.std.proofs.Common.{refl}
use Rattle.vhdl_tokens.specs.Words.{is_reserved, vhdl_words}
use Rattle.vhdl_tokens.proofs.words.is_reserved.Goals as goal

pub returns : goal.returns
unfolding is_reserved vhdl_words
returns c = c.is_in.ensures refl
