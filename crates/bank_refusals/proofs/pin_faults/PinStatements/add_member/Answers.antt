use Rattle.std.proofs.Common.{◌++◌, map, ap, ◌∙◌}
use Rattle.std.specs.Prelude.{flat_map}
use Rattle.bank_refusals.specs.Members.{inner_pin_items, own_items}
use Rattle.bank_refusals.proofs.Faultless.{made_faults, where_went}
use Rattle.bank_refusals.proofs.OwnLemmas.{own_are}
use Rattle.bank_refusals.proofs.pin_faults.PinStatements.add_member.Goals as goal

pub returns : goal.returns
returns c =
    let vector = c.args.member.vector.now in
    let at = c.args.member.at in
    let name = c.args.member.name.now in
    let statements = c.args.self.now.group.now.items in
    where_went c.add_pin_faults.result
    (made_faults c.args.self.now.vectors.now at statements (flat_map (own_items vector at name) statements)
    (map (λ item. item.now) c.deref-3.result.now) c.args.found.now.items c.add_pin_faults.new.found.items
    (ap (map (λ item. item.now)) c.deref-3.ensures.value ∙ (c.in_ok-items.ensures
    ∙ (λ i. (ap (map (λ item. item.now)) c.deref.ensures.value ∙ c.requires.varying) i
    ++ (ap (map (λ item. item.now)) c.deref-2.ensures.value ∙ (c.in_ok-own.ensures
    ∙ (ap (flat_map (inner_pin_items vector at name)) c.requires.pins
    ∙ own_are vector at name statements))) i))))
    c.add_pin_faults.ensures
