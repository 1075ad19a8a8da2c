use Rattle.std.proofs.Common.{length}
use Rattle.step_tables.proofs.input_words.+last_word.Given as goal

abbrev pub decreases-last_word : goal.decreases-last_word
decreases-last_word l = length l.names.now
