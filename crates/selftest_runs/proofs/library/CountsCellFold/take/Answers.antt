use Rattle.std.proofs.lemmas.Result.{on_ok_weaker as on_ok, IfOk-at_ok}
use Rattle.selftest_runs.proofs.CountedCells.{next_counted}
use Rattle.selftest_runs.proofs.library.CountsCellFold.take.Goals as goal

pub returns-clause-made : goal.returns-clause-made
returns-clause-made c =
    on_ok c.add.result
    (λ told. λ p h cells e.
    next_counted p c.args.group.now c.args.next c.args.self.now told.0 c.add.new.self cells h e
    (IfOk-at_ok _ told.1 c.count_next-more.ensures) told.2)
    c.add.ensures.sum
