use Rattle.std.proofs.Common.{length}
use Rattle.trit_cubes.proofs.resolution.+resolve_from.Given as goal

abbrev pub decreases-resolve_from : goal.decreases-resolve_from
decreases-resolve_from g l = length l.places.now
