use Rattle.std.proofs.Common.{◌-◌, ◌∙◌, arith}
use Rattle.trit_cubes.proofs.TryingLemmas.{cubes-short}
use Rattle.trit_cubes.proofs.trying.+all_cubes.Goals as goal

pub add_all-requires : goal.add_all-requires
add_all-requires m c = cubes-short (c.args.n - 1) _ (c.deref.ensures.value ∙ c.in_ok-shorter.ensures) (omega (arith, c.requires, c.if-n-eq0.false))

pub add_all-requires-2 : goal.add_all-requires-2
add_all-requires-2 m c = cubes-short (c.args.n - 1) _ (c.deref-2.ensures.value ∙ c.in_ok-shorter.ensures) (omega (arith, c.requires, c.if-n-eq0.false))

pub add_all-requires-3 : goal.add_all-requires-3
add_all-requires-3 m c = cubes-short (c.args.n - 1) _ (c.deref-3.ensures.value ∙ c.in_ok-shorter.ensures) (omega (arith, c.requires, c.if-n-eq0.false))
