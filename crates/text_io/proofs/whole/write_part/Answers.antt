use Rattle.text_io.specs.declared.slots.Slot.TheVariants.{Output}
use Rattle.text_io.proofs.LineLaws.{gathered_bound, put_fails, flushes}
use Rattle.text_io.proofs.whole.write_part.Goals as goal

pub returns-in_err-put-clause-text : goal.returns-in_err-put-clause-text
returns-in_err-put-clause-text g c =
    let fails = rw c.new-line.ensures at c.in_err-put.ensures.text in
    put_fails _ _ _ _ _ _ _ fails c.from_residual.ensures.0

pub flush-requires : goal.flush-requires
flush-requires g c = gathered_bound _ _ _ _ _ _ (Output c.args.slot) c.in_ok-put.ensures.text.whole c.requires

pub returns-clause-text : goal.returns-clause-text
returns-clause-text g c =
    flushes _ _ _ _ _ _ _ (rw c.new-line.ensures at c.in_ok-put.ensures.text.whole) c.flush.ensures.text
