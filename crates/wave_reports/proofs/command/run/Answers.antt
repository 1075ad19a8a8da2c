use Rattle.std.proofs.Common.{ap, sym, ◌∙◌}
use Rattle.wave_reports.specs.Outcome.{names_both}
use Rattle.wave_reports.proofs.BoundFiles.{both_planned, named_runs, usage_runs}
use Rattle.wave_reports.proofs.command.run.Goals as goal

pub draw_report-requires : goal.draw_report-requires
draw_report-requires g c = both_planned (g.D.Desk.state c.args.desk.now).words (ap names_both (sym c.asked_files.ensures) ∙ sym c.names_both.ensures ∙ c.if-names_both.true)

pub returns-then-names_both-clause-writes : goal.returns-then-names_both-clause-writes
returns-then-names_both-clause-writes g c = named_runs _ _ _ (ap names_both (sym c.asked_files.ensures) ∙ sym c.names_both.ensures ∙ c.if-names_both.true) c.draw_report.ensures.writes

pub returns-else-names_both-clause-writes : goal.returns-else-names_both-clause-writes
returns-else-names_both-clause-writes g c = usage_runs _ _ c.write_usage.result _ (ap names_both (sym c.asked_files.ensures) ∙ sym c.names_both.ensures ∙ c.if-names_both.false) c.write_usage.ensures.text c.ended.ensures
