use Rattle.std.proofs.Common.{sym, ◌∙◌}
use Rattle.trit_cubes.proofs.ConstantLemmas.{primes-of-none, primes-of-all}
use Rattle.trit_cubes.proofs.splitting.of_all_or_none.Goals as goal

pub returns-then-not-all : goal.returns-then-not-all
returns-then-not-all c = rw c.if-not-all.true (c.new-found.ensures.items ∙ sym (primes-of-none c.args.n))

pub returns : goal.returns
returns c =
    rw (c.if-not-all.false, c.in_ok-push.ensures.items, c.new-found.ensures.items, c.free.ensures) (sym (primes-of-all c.args.n))
