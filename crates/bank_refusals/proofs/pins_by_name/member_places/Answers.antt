use Rattle.std.proofs.Common.{◌≡◌, ℕ, List, None, map, ap, sym, slice_get, ◌∙◌}
use Rattle.std.specs.List.{list_any}
use Rattle.std.specs.Option.{option_copied}
use Rattle.cell_machine.specs.Places.{places_from}
use Rattle.liberty_groups.specs.declared.tree.Group.{Group}
use Rattle.bus_texts.specs.declared.vectors.Vector.{Vector}
use Rattle.bank_refusals.specs.Members.{names_bit_or}
use Rattle.bank_refusals.specs.InnerPins.{pin_places}
use Rattle.bank_refusals.proofs.InnerPinLemmas.{if_went}
use Rattle.bank_refusals.proofs.pins_by_name.member_places.Goals as goal

pub returns-in-None : goal.returns-in-None
returns-in-None c =
    let vector : Vector = c.args.member.vector.now in
    let at : ℕ = c.args.member.at in
    let name : List ℕ = c.args.member.name.now in
    let pins : List Group = map (λ pin. pin.now) c.pins.inside.groups.items in
    let no_bit : slice_get vector.bits at ≡ None = sym c.get.ensures.value ∙ ap option_copied c.in-None.is in
    if_went c.from_slice.result _ _
    (λ places made.
    made ∙ c.of.ensures ∙ c.pins.invariant.found name
    ∙ ap (λ bit. places_from (λ pin. list_any (λ argument. names_bit_or vector.name name bit argument.bytes) pin.arguments) 0 pins)
    (sym no_bit)
    ∙ ap (pin_places vector at name) c.pins.view_is)
    c.from_slice.ensures.items
