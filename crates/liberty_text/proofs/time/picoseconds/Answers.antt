use Rattle.liberty_text.proofs.Times.{time_answer}
use Rattle.liberty_text.proofs.time.picoseconds.Goals as goal

pub returns-clause-rounded_up : goal.returns-clause-rounded_up
returns-clause-rounded_up c = (time_answer c.args.value c.args.unit c.whole_time.result c.whole_time.ensures).0

pub returns-clause-bounded : goal.returns-clause-bounded
returns-clause-bounded c = (time_answer c.args.value c.args.unit c.whole_time.result c.whole_time.ensures).1
