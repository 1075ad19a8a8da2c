use Rattle.std.proofs.Common.{◌-◌, ◌<◌, sym, subst}
use Rattle.module_tables.proofs.ListNumbers.{third, some-lists}
use Rattle.module_tables.proofs.lists.third.Goals as goal

pub returns-clause-count : goal.returns-clause-count
returns-clause-count c = third c.args.n c.args.count c.requires.some c.requires.count

pub returns-clause-some : goal.returns-clause-some
returns-clause-some c =
    subst (λ k. 0 < k) (sym (third c.args.n c.args.count c.requires.some c.requires.count)) (some-lists (c.args.n - 1))
