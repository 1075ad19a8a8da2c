use Rattle.std.proofs.Common.{◌^◌, ◌≤◌, length, arith}
use Rattle.std.proofs.Math.Pow.{pow_mono}
use Rattle.trit_cubes.proofs.ResolutionLemmas.{step-start}
use Rattle.trit_cubes.proofs.resolution.resolve.Goals as goal

pub resolve_from-requires-clause-room : goal.resolve_from-requires-clause-room
resolve_from-requires-clause-room g c = let most : 2 ^ length c.args.places.now ≤ 1024 = pow_mono c.requires.short in omega (arith, most)

pub returns : goal.returns
returns g c = step-start (goal.F-post g c.args.f.now) _ _ c.resolve_from.ensures
