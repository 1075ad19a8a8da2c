use Rattle.liberty_text.proofs.Spelling.{spelled_digits}
use Rattle.liberty_text.proofs.number.number.Goals as goal

pub value-requires-clause-whole : goal.value-requires-clause-whole
value-requires-clause-whole c = (spelled_digits c.args.text.now _ c.in-Some.ensures).0

pub value-requires-clause-fraction : goal.value-requires-clause-fraction
value-requires-clause-fraction c = (spelled_digits c.args.text.now _ c.in-Some.ensures).1

pub value-requires-clause-exponent : goal.value-requires-clause-exponent
value-requires-clause-exponent c = (spelled_digits c.args.text.now _ c.in-Some.ensures).2
