use Rattle.std.proofs.Common.{subst}
use Rattle.first_names.specs.AllPlaces.{PutsPlace}
use Rattle.bank_refusals.proofs.InnerPinLemmas.{put_more}
use Rattle.bank_refusals.proofs.pins_by_name.put_names.Goals as goal

pub loop-argument-preserved : goal.loop-argument-preserved
loop-argument-preserved c =
    put_more _ c.loop-argument.places c.put.new.self c.args.arguments.now c.loop-argument.argument-index c.argument-item.result c.args.at c.loop-argument-test.true
    c.argument-item.is c.loop-argument.invariant
    (subst (λ name. PutsPlace c.loop-argument.places name c.args.at c.put.new.self) c.bytes.ensures c.in_ok-put.ensures)
