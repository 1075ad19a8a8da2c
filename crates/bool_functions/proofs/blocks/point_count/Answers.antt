use Rattle.std.proofs.Common.{◌≤◌, ◌^◌, length, arith}
use Rattle.std.proofs.Math.Pow.{pow_mono}
use Rattle.bool_functions.proofs.blocks.point_count.Goals as goal

pub returns-clause-few : goal.returns-clause-few
returns-clause-few c = let most : 2 ^ length c.args.places.now ≤ 2 ^ 10 = pow_mono c.requires in omega arith
