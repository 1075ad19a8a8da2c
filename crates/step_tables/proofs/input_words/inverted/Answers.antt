use Rattle.step_tables.proofs.WordLemmas.{lane_inverted}
use Rattle.step_tables.proofs.input_words.inverted.Goals as goal

pub returns : goal.returns
returns c = λ k h. lane_inverted c.args.word k h
