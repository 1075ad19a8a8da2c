use Rattle.std.proofs.Common.{◌∙◌}
use Rattle.cell_machine.specs.Each.{each}
use Rattle.model_traces.specs.CheckReports.{is_enabled}
use Rattle.model_traces.specs.CheckTimes.{reports_where}
use Rattle.module_runs.proofs.module_run.compare_checks.Goals as goal

pub returns-clause-reports : goal.returns-clause-reports
returns-clause-reports c =
    let m = c.args.tables.now.model.now in
    c.compare_all.ensures.reports
    ∙ (λ i.
    each
    (reports_where (c.ports.ensures i) (is_enabled m (c.as_slice.ensures i) (c.as_slice-2.ensures i)) c.args.from c.args.change)
    (c.as_slice-checks.ensures i) (c.as_slice-3.ensures i))

pub returns-clause-one_each : goal.returns-clause-one_each
returns-clause-one_each c =
    record {
      states = c.requires.one_each.states;
      stamps = c.stamp_all.ensures.len ∙ c.requires.one_each.stamps;
    }
