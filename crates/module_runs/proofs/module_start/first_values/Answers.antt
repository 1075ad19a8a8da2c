use Rattle.std.proofs.Common.{◌≡◌, subst, map, IfOk}
use Rattle.model_traces.specs.declared.module_run.ModuleRun.{ModuleRun}
use Rattle.model_traces.specs.PortNumbers.{output_ports}
use Rattle.module_runs.specs.KeptValues.{kept_values}
use Rattle.module_runs.specs.ShownPorts.{shown_first}
use Rattle.module_runs.proofs.module_start.first_values.Goals as goal

pub returns-clause-kept : goal.returns-clause-kept
returns-clause-kept c =
    let m = c.args.tables.now.model.now in
    subst (λ (r : ModuleRun). IfOk c.values_at.result (λ first. first.kept ≡ kept_values m r.inputs r.states)) c.in_ok-run.ensures.run
    (rw (c.as_slice.ensures, c.as_slice-2.ensures) at c.values_at.ensures.kept)

pub returns-clause-shown : goal.returns-clause-shown
returns-clause-shown c =
    let m = c.args.tables.now.model.now in
    subst (λ (r : ModuleRun). IfOk c.values_at.result (λ first. first.shown ≡ map (shown_first m r.inputs r.states) (output_ports m.ports)))
    c.in_ok-run.ensures.run (rw (c.as_slice.ensures, c.as_slice-2.ensures) at c.values_at.ensures.shown)
