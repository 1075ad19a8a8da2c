use Rattle.std.proofs.Common.{refl}
use Rattle.verilog_tokens.specs.Words.{is_verilog_word, verilog_words}
use Rattle.verilog_tokens.proofs.word_groups.words_from.Goals as goal

pub returns : goal.returns
unfolding is_verilog_word verilog_words
returns c rest = c.group_of.ensures (λ word. word) rest refl
