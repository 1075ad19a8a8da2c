use Rattle.text_io.specs.declared.slots.Slot.TheVariants.{Output}
use Rattle.text_io.proofs.LineLaws.{gathered_bound, puts_on}
use Rattle.text_io.proofs.parts.Tuple2Part.put.Goals as goal

pub put-requires-2 : goal.put-requires-2
put-requires-2 g c = gathered_bound _ _ _ _ _ _ (Output c.args.slot) c.in_ok-put.ensures.text.whole c.requires

pub returns-clause-text : goal.returns-clause-text
returns-clause-text g c = puts_on _ _ _ _ _ _ _ _ _ _ c.in_ok-put.ensures.text.whole c.put-2.ensures.text
