use Rattle.std.proofs.Common.{length, arith}
use Rattle.cell_machine.specs.declared.outputs.Source.TheVariants as source
use Rattle.cell_machine.specs.CellData.{data_of}
use Rattle.scan_cells.specs.Places.{in_either, places_of}
use Rattle.scan_cells.proofs.Ranges.{place_more, place_room, place_end, front_few}
use Rattle.scan_cells.proofs.Counting.{few_places}
use Rattle.scan_cells.proofs.places.places_of.Goals as goal

pub add_place-requires : goal.add_place-requires
add_place-requires c =
    let groups = length c.args.cell.now.groups in
    let p = in_either c.args.first.now c.args.second.now in
    let whole = places_of (data_of c.args.cell.now) c.args.first.now c.args.second.now in
    let room = place_room (λ j. source.State j) p c.loop-group.group groups c.loop-group.places whole (omega (arith, c.loop-group-test.true)) c.loop-group.invariant in
    let few = few_places (data_of c.args.cell.now) c.args.first.now c.args.second.now in
    omega (arith, room, few, c.requires)

pub loop-group-preserved : goal.loop-group-preserved
loop-group-preserved c =
    place_more (λ j. source.State j) (in_either c.args.first.now c.args.second.now) c.loop-group.group (length c.args.cell.now.groups) c.loop-group.places _
    (omega (arith, c.loop-group-test.true)) c.add_place.ensures c.loop-group.invariant

pub returns-clause-is : goal.returns-clause-is
returns-clause-is c =
    let groups = length c.args.cell.now.groups in
    let p = in_either c.args.first.now c.args.second.now in
    place_end (λ j. source.State j) p c.loop-group.group groups c.loop-group.places
    (places_of (data_of c.args.cell.now) c.args.first.now c.args.second.now) (omega (arith, c.loop-group-test.false)) c.loop-group.invariant

pub returns-clause-few : goal.returns-clause-few
returns-clause-few c =
    let whole = places_of (data_of c.args.cell.now) c.args.first.now c.args.second.now in
    let front = front_few c.loop-group.places _ whole c.loop-group.invariant in
    let few = few_places (data_of c.args.cell.now) c.args.first.now c.args.second.now in
    omega (arith, front, few, c.requires)
