use Rattle.std.proofs.Common.{◌∙◌, length-set, arith}
use Rattle.trit_cubes.proofs.TryingLemmas.{take-written}
use Rattle.trit_cubes.proofs.trying.places_of.Goals as goal

pub loop-i-preserved : goal.loop-i-preserved
loop-i-preserved c = (
  c.loop-i.invariant.0,
  length-set _ _ _ ∙ c.loop-i.invariant.1,
  take-written _ _ _ _ (omega (arith, c.loop-i.invariant.0, c.loop-i.invariant.1, c.loop-i-test.true, c.len-i-end.ensures.value))
      (omega (arith, c.loop-i-test.true, c.len-i-end.ensures.value)) c.place.ensures c.loop-i.invariant.2,
)
