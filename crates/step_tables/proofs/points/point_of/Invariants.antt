use Rattle.std.proofs.Common.{◌≡◌, ◌-◌, ◌++◌, length}
use Rattle.trit_cubes.specs.Sets.{point_of}
use Rattle.step_tables.proofs.points.point_of.Given as goal

-- the places so far, and those of what is left of the number
abbrev pub invariant-loop-place : goal.invariant-loop-place
invariant-loop-place g l = (l.point ++ point_of (l.places - l._place) l.rest ≡ point_of l.places l.number) × (length l.point ≡ l._place)
