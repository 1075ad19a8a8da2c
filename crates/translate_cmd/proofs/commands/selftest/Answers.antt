use Rattle.translate_cmd.proofs.RunsLemmas.{nothing_runs, selftest_runs}
use Rattle.command_words.proofs.ReadingLaws.{few_cells}
use Rattle.translate_cmd.proofs.commands.selftest.Goals as goal

pub selftest_counts-requires : goal.selftest_counts-requires
selftest_counts-requires g c = few_cells (g.D.Desk.state c.args.desk.now).words c.args.cells c.requires

pub write_report-requires : goal.write_report-requires
write_report-requires g c = few_cells (g.D.Desk.state c.args.desk.now).words c.args.cells c.requires

pub returns-in-Ok-clause-writes : goal.returns-in-Ok-clause-writes
returns-in-Ok-clause-writes g c =
    selftest_runs _ _ c.args.cells c.in-Ok.counts c.write_report.result _ c.requires c.in-Ok.ensures c.write_report.ensures.text c.ended.ensures

pub returns-in-Err-clause-writes : goal.returns-in-Err-clause-writes
returns-in-Err-clause-writes g c = nothing_runs _
