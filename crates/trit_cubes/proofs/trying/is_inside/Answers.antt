use Rattle.trit_cubes.specs.Sets.{has}
use Rattle.trit_cubes.proofs.TryingLemmas.{is_inside-resolved}
use Rattle.trit_cubes.proofs.trying.is_inside.Goals as goal

pub returns : goal.returns
returns c = rw (c.is_one.ensures, c.resolved.ensures, c.len.ensures.value, c.places_of-places.ensures) (is_inside-resolved (has c.args.set.now) c.args.cube.now)
