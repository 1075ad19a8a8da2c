use Rattle.std.proofs.Common.{◌<◌, ◌∙◌, length, arith}
use Rattle.std.proofs.lemmas.Option.{slice_get-get_or}
use Rattle.module_runs.proofs.ModuleSteps.{shaken-step}
use Rattle.module_runs.proofs.module_run.ModuleState.toggle_for_each.Goals as goal

pub loop-i-preserved : goal.loop-i-preserved
loop-i-preserved c =
    let reports = c.args.reports.now in
    let inside : c.loop-i.i < length reports = omega arith in
    let turned = c.toggle_where_reported-turned.ensures in
    record {
      stepped =
          shaken-step c.args.tables.now.model.now reports c.loop-i.i _ c.loop-i.self.run c.toggle_where_reported-turned.new.self.run
          (slice_get-get_or reports c.loop-i.i _ inside) turned.stepped
          ∙ c.loop-i.invariant.stepped;
      current = turned.current;
      still = λ e.
          let both = c.either-changed.ensures e in
          turned.still both.1 ∙ c.loop-i.invariant.still both.0;
      inputs = turned.inputs ∙ c.loop-i.invariant.inputs;
    }
