use Rattle.std.proofs.Common.{sym, ◌∙◌}
use Rattle.statetables.proofs.LaneLemmas.{lane_all, lane_none}
use Rattle.step_tables.proofs.input_words.word_of_all.Goals as goal

pub returns-then-value : goal.returns-then-value
returns-then-value c = λ k h. lane_all k h ∙ sym c.if-value.true

pub returns-else-value : goal.returns-else-value
returns-else-value c = λ k h. lane_none k ∙ sym c.if-value.false
