use Rattle.trit_cubes.proofs.WordLemmas.{place-free, place-zero, place-one}
use Rattle.trit_cubes.proofs.cubes.Cube.place.Goals as goal

pub returns-then-self-i-eq0 : goal.returns-then-self-i-eq0
returns-then-self-i-eq0 c =
    rw (← c.self.view_is) (place-free c.self.inside.len _ _ c.args.i (rw (c.self.invariant.1, c.self.view_is) c.requires) c.if-self-i-eq0.true)

pub returns-then-self-i-eq0-2 : goal.returns-then-self-i-eq0-2
returns-then-self-i-eq0-2 c =
    rw (← c.self.view_is) (place-zero c.self.inside.len _ _ c.args.i (rw (c.self.invariant.1, c.self.view_is) c.requires) c.if-self-i-eq0.false c.if-self-i-eq0-2.true)

pub returns-else-self-i-eq0-2 : goal.returns-else-self-i-eq0-2
returns-else-self-i-eq0-2 c =
    rw (← c.self.view_is) (place-one c.self.inside.len _ _ c.args.i (rw (c.self.invariant.1, c.self.view_is) c.requires) c.if-self-i-eq0.false c.if-self-i-eq0-2.false)
