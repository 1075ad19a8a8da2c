use Rattle.std.proofs.Common.{List, ap, sym, ◌∙◌, length}
use Rattle.std.proofs.lemmas.List.{length-set}
use Rattle.trit_cubes.specs.declared.trits.Trit.{Trit}
use Rattle.model_traces.specs.declared.module_run.ModuleRun.{ModuleRun}
use Rattle.model_traces.specs.ModuleRun.{reports_by}
use Rattle.module_runs.specs.KeptValues.{kept_values}
use Rattle.module_runs.proofs.module_run.ModuleState.step_event.Goals as goal

pub returns-clause-reports : goal.returns-clause-reports
returns-clause-reports c =
    let m = c.args.tables.now.model.now in
    c.compare_checks.ensures.reports
    ∙ (λ i. reports_by m (c.change_input-by_input.ensures.stepped i) (c.requires.from i) c.args.change)

pub returns-clause-ready : goal.returns-clause-ready
returns-clause-ready c =
    let inputs_of : ModuleRun → List Trit = λ r. r.inputs in
    let inputs = c.toggle_for_each-by_reports.ensures.inputs ∙ ap inputs_of c.compare_checks.ensures.stamped in
    record {
      current = c.toggle_for_each-by_reports.ensures.current;
      each_input =
          ap length (inputs ∙ ap inputs_of c.change_input-by_input.ensures.stepped)
          ∙ length-set c.args.self.now.run.inputs c.args.change.pin c.args.change.to
          ∙ c.requires.ready.each_input;
      one_report = c.compare_checks.ensures.len ∙ c.requires.ready.one_report;
    }

pub toggle_for_each-by_reports-requires : goal.toggle_for_each-by_reports-requires
toggle_for_each-by_reports-requires c =
    let current = c.change_input-by_input.ensures.current in
    let stamped = c.compare_checks.ensures.stamped in
    record {
      wired = current.wired;
      kept_are = current.kept_are ∙ (λ i. kept_values c.args.tables.now.model.now (sym stamped i).inputs (sym stamped i).states);
      one_each = c.compare_checks.ensures.one_each;
    }

pub returns-clause-still : goal.returns-clause-still
returns-clause-still c = λ e.
    let both = c.either.ensures e in
    c.toggle_for_each-by_reports.ensures.still both.1 ∙ c.change_input-by_input.ensures.still both.0
