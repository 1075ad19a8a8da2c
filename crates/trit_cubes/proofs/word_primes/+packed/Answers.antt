use Rattle.std.proofs.Common.{◌-◌, ◌<◌, arith}
use Rattle.trit_cubes.proofs.PackLemmas.{one-less, half-bits, half-small, step-double, packed-fits, packed-is_below, packed-has}
use Rattle.trit_cubes.proofs.word_primes.+packed.Goals as goal

pub packed-zero-requires : goal.packed-zero-requires
packed-zero-requires t c =
    let more = one-less c.args.left c.if-left-eq0.false in
    (omega (arith, c.decreases, more), (omega (arith, c.requires.few), (step-double (c.args.left - 1) c.args.left c.args.step _ more c.requires.entries, omega (arith, c.requires.start))))

pub packed-one-requires : goal.packed-one-requires
packed-one-requires t c =
    let more = one-less c.args.left c.if-left-eq0.false in
    (omega (arith, c.decreases, more), (omega (arith, c.requires.few), (step-double (c.args.left - 1) c.args.left c.args.step _ more c.requires.entries, omega (arith, c.requires.start))))

pub overflow_shl-result : goal.overflow_shl-result
overflow_shl-result t c =
    let few : c.args.left - 1 < 6 = omega (arith, c.requires.few, one-less c.args.left c.if-left-eq0.false) in
    rw (half-bits (c.args.left - 1) few) (half-small (c.args.left - 1) few)

pub overflow_add-result : goal.overflow_add-result
overflow_add-result t c =
    let few : c.args.left - 1 < 6 = omega (arith, c.requires.few, one-less c.args.left c.if-left-eq0.false) in
    omega (arith, packed-fits (c.args.left - 1) c.packed-zero.result c.packed-one.result few c.packed-zero.ensures.below c.packed-one.ensures.below)

pub returns-clause-below : goal.returns-clause-below
returns-clause-below t c =
    let more = one-less c.args.left c.if-left-eq0.false in
    let few : c.args.left - 1 < 6 = omega (arith, c.requires.few, more) in
    packed-is_below (c.args.left - 1) c.args.left c.packed-zero.result c.packed-one.result more few c.packed-zero.ensures.below c.packed-one.ensures.below

pub returns-clause-values : goal.returns-clause-values
returns-clause-values t c =
    let more = one-less c.args.left c.if-left-eq0.false in
    let few : c.args.left - 1 < 6 = omega (arith, c.requires.few, more) in
    packed-has (c.args.left - 1) c.args.left c.packed-zero.result c.packed-one.result c.args.start c.args.step c.args.set.now more few
    c.packed-zero.ensures.below c.packed-one.ensures.below c.packed-zero.ensures.values c.packed-one.ensures.values
