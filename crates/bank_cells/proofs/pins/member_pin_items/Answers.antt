use Rattle.std.proofs.Common.{◌++◌, Some, map, ap, ◌∙◌}
use Rattle.std.specs.Prelude.{filter, flat_map}
use Rattle.bank_refusals.specs.Members.{is_shared, inner_pin_items}
use Rattle.bank_refusals.proofs.OwnLemmas.{own_are}
use Rattle.bank_cells.specs.Expanded.{pin_item}
use Rattle.bank_cells.proofs.SharedLemmas.{made_items}
use Rattle.bank_cells.proofs.pins.member_pin_items.Goals as goal

pub returns : goal.returns
returns c =
    let vector = c.args.member.vector.now in
    let at = c.args.member.at in
    let name = c.args.member.name.now in
    let statements = c.args.group.now.items in
    made_items c.args.vectors.now at statements c.args.shared.now (map (λ item. item.now) c.deref.result.now) c.in_ok-items.items
    c.add_shared_at.new.found c.add_pin_items.new.found c.requires.shared c.in_ok-items.ensures c.in_ok-add_shared_at.ensures c.in_ok-add_pin_items.ensures
    ∙ ap (λ own. map (pin_item c.args.vectors.now (Some at)) (filter is_shared statements ++ own))
    (ap (λ list. map (λ item. item.now) list) c.deref.ensures.value ∙ (c.in_ok-own.ensures
    ∙ (ap (flat_map (inner_pin_items vector at name)) c.requires.pins ∙ own_are vector at name statements)))
