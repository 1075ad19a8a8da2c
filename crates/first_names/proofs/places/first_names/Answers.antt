use Rattle.std.proofs.Common.{subst}
use Rattle.first_names.specs.Places.{AddsPlace}
use Rattle.first_names.proofs.PlaceLemmas.{first_more}
use Rattle.first_names.proofs.places.first_names.Goals as goal

pub loop-place-preserved : goal.loop-place-preserved
loop-place-preserved g c =
    first_more g.T.Named.name_of c.loop-place.found c.add.new.self c.args.things.now c.loop-place.place c.index-things-place.result c.loop-place-test.true c.index-things-place.is
    c.loop-place.invariant (subst (λ x. AddsPlace c.loop-place.found x c.loop-place.place c.add.new.self) c.name.ensures c.in_ok-add.ensures)
