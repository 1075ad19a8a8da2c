use Rattle.std.proofs.Common.{subst}
use Rattle.bank_refusals.specs.InnerPins.{PutsPin}
use Rattle.bank_refusals.proofs.InnerPinLemmas.{found_more}
use Rattle.bank_refusals.proofs.pins_by_name.named_places.Goals as goal

pub loop-at-preserved : goal.loop-at-preserved
loop-at-preserved c =
    found_more (λ pin. pin.now) c.loop-at.places c.put_names.new.places c.args.pins.now c.loop-at.at c.index-pins-at.result c.loop-at-test.true
    c.index-pins-at.is c.loop-at.invariant
    (subst (λ arguments. PutsPin c.loop-at.places arguments c.loop-at.at c.put_names.new.places) c.as_slice.ensures c.in_ok-put_names.ensures)
