use Rattle.std.proofs.Common.{◌+◌, ◌-◌, ◌/◌, ◌%◌, ◌++◌, ◌∷◌, [], nat_eq, length, ap, ◌∙◌, arith}
use Rattle.std.proofs.lemmas.List.{length-append}
use Rattle.trit_cubes.specs.Sets.{point_of}
use Rattle.step_tables.proofs.PointLemmas.{point_turn}
use Rattle.step_tables.proofs.points.point_of.Goals as goal

pub loop-place-preserved : goal.loop-place-preserved
loop-place-preserved g c =
    let b = nat_eq (c.loop-place.rest % 2) 1 in
    let long = length-append c.loop-place.point (b ∷ []) in (
      ap (λ xs. xs ++ point_of (c.args.places - (c.loop-place._place + 1)) (c.loop-place.rest / 2)) c.push.ensures
          ∙ point_turn c.args.places c.loop-place._place c.loop-place.rest c.loop-place.point (point_of c.args.places c.args.number)
          c.loop-place-test.true c.loop-place.invariant.0,
      ap length c.push.ensures ∙ omega (arith, long, c.loop-place.invariant.1),
    )
