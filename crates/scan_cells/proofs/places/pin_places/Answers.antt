use Rattle.std.proofs.Common.{length, filter, arith}
use Rattle.std.specs.List.{range_with_len}
use Rattle.cell_machine.specs.declared.outputs.Source.TheVariants as source
use Rattle.scan_cells.specs.Places.{in_either, pin_sources}
use Rattle.scan_cells.proofs.Ranges.{place_more, place_room, place_end}
use Rattle.scan_cells.proofs.Counting.{few_pins}
use Rattle.scan_cells.proofs.places.pin_places.Goals as goal

pub add_place-requires : goal.add_place-requires
add_place-requires c =
    let pins = length c.args.cell.now.pins in
    let p = in_either c.args.first.now c.args.second.now in
    let whole = filter p (pin_sources (range_with_len 0 pins)) in
    let room = place_room (λ j. source.Pin j) p c.loop-pin.pin pins c.loop-pin.places whole (omega (arith, c.loop-pin-test.true)) c.loop-pin.invariant in
    let few = few_pins c.args.first.now c.args.second.now pins in
    omega (arith, room, few, c.requires)

pub loop-pin-preserved : goal.loop-pin-preserved
loop-pin-preserved c =
    place_more (λ j. source.Pin j) (in_either c.args.first.now c.args.second.now) c.loop-pin.pin (length c.args.cell.now.pins) c.loop-pin.places _
    (omega (arith, c.loop-pin-test.true)) c.add_place.ensures c.loop-pin.invariant

pub returns : goal.returns
returns c =
    let pins = length c.args.cell.now.pins in
    let p = in_either c.args.first.now c.args.second.now in
    place_end (λ j. source.Pin j) p c.loop-pin.pin pins c.loop-pin.places (filter p (pin_sources (range_with_len 0 pins)))
    (omega (arith, c.loop-pin-test.false)) c.loop-pin.invariant
