use Rattle.std.proofs.Common.{◌<◌, arith}
use Rattle.std.proofs.lemmas.Bool.Decides.{nat_tests}
use Rattle.module_tables.proofs.ListNumbers.{three-times, three-few}
use Rattle.module_tables.proofs.lists.+list_count.Goals as goal

pub returns-clause-count : goal.returns-clause-count
returns-clause-count t c =
    let some : 0 < c.args.n = grind (arith, nat_tests, c.if-n-eq0.false) in
    three-times c.args.n c.list_count.result some c.list_count.ensures.count

pub returns-clause-few : goal.returns-clause-few
returns-clause-few t c =
    let some : 0 < c.args.n = grind (arith, nat_tests, c.if-n-eq0.false) in
    three-few c.args.n c.list_count.result (three-times c.args.n c.list_count.result some c.list_count.ensures.count) c.requires
