use Rattle.std.proofs.Common.{sym, ap, arith, subst, ◌<◌, ◌^◌}
use Rattle.std.specs.Prelude.{bit_xor}
use Rattle.std.proofs.lemmas.Nat.{pow_below, xor_lt}
use Rattle.trit_cubes.specs.Sets.{point_of}
use Rattle.trit_cubes.proofs.PointLemmas.{length-point_of}
use Rattle.step_tables.proofs.PointLemmas.{turned_past}
use Rattle.step_tables.proofs.WordLemmas.{turned_point}
use Rattle.step_tables.proofs.points.turned.Goals as goal

pub returns-then-place-places-clause-is : goal.returns-then-place-places-clause-is
returns-then-place-places-clause-is c =
    turned_point c.args.places c.args.place _ c.args.number c.if-place-places.true (ap (bit_xor c.args.number) (sym c.weight.ensures))

pub returns-then-place-places-clause-small : goal.returns-then-place-places-clause-small
returns-then-place-places-clause-small c =
    subst (λ w. bit_xor c.args.number w < 2 ^ c.args.places) (sym c.weight.ensures)
    (xor_lt c.args.places c.args.number _ c.requires.number (pow_below c.args.place c.args.places c.if-place-places.true))

pub returns-else-place-places-clause-is : goal.returns-else-place-places-clause-is
returns-else-place-places-clause-is c =
    let n = c.args.places in
    let long = length-point_of n c.args.number in
    sym (turned_past c.args.place (point_of n c.args.number) (omega (arith, long, c.if-place-places.false)))
