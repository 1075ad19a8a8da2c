use Rattle.std.proofs.Common.{sym, ◌∙◌, arith}
use Rattle.trit_cubes.specs.Sets.{has}
use Rattle.trit_cubes.proofs.TryingLemmas.{is_prime-stays, is_prime-leaves}
use Rattle.trit_cubes.proofs.trying.is_prime.Goals as goal

pub returns-then-not-stays_fixed : goal.returns-then-not-stays_fixed
returns-then-not-stays_fixed c =
    is_prime-leaves (has c.args.set.now) c.args.cube.now c.loop-i.i (omega (arith, c.loop-i-test.true, c.len-i-end.ensures.value))
    (sym c.stays_fixed.ensures ∙ c.if-not-stays_fixed.true)

pub returns : goal.returns
returns c =
    is_prime-stays (has c.args.set.now) c.args.cube.now c.loop-i.invariant.0
    (λ j l. c.loop-i.invariant.1 j (omega (arith, c.loop-i-test.false, c.len-i-end.ensures.value)))
