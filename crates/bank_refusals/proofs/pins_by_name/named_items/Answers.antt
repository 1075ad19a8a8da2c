use Rattle.std.proofs.Common.{ap, ◌∙◌}
use Rattle.std.specs.Prelude.{flat_map}
use Rattle.bank_refusals.specs.InnerPins.{statements_at}
use Rattle.bank_refusals.proofs.InnerPinLemmas.{own_found, if_went}
use Rattle.bank_refusals.proofs.pins_by_name.named_items.Goals as goal

pub returns : goal.returns
returns c =
    if_went c.items_at.result _ _
    (λ items made.
    made ∙ ap (λ pins. flat_map (statements_at pins) c.deref.result.now) c.groups.ensures
    ∙ ap (flat_map (statements_at c.args.pins.now)) (c.deref.ensures.value ∙ c.in_ok-places.ensures)
    ∙ own_found c.args.member.vector.now c.args.member.at c.args.member.name.now c.args.pins.now)
    c.items_at.ensures
