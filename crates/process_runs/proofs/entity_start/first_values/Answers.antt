use Rattle.std.proofs.Common.{◌≡◌, subst, map, IfOk}
use Rattle.process_runs.specs.declared.process_run.ProcessState.{ProcessState}
use Rattle.process_runs.specs.EntitySteps.{output_first}
use Rattle.process_runs.specs.KeptConditions.{condition_values}
use Rattle.process_runs.proofs.entity_start.first_values.Goals as goal

pub returns-clause-conditions : goal.returns-clause-conditions
returns-clause-conditions c =
    let e = c.args.model.now in
    subst (λ (r : ProcessState). IfOk c.values_at.result (λ first. first.0 ≡ condition_values e r.inputs)) c.in_ok-run.ensures.run
    (rw c.as_slice.ensures at c.values_at.ensures.conditions)

pub returns-clause-shown : goal.returns-clause-shown
returns-clause-shown c =
    let e = c.args.model.now in
    subst (λ (r : ProcessState). IfOk c.values_at.result (λ first. first.1 ≡ map (output_first e r.inputs r.states) e.outputs))
    c.in_ok-run.ensures.run (rw (c.as_slice.ensures, c.as_slice-2.ensures) at c.values_at.ensures.shown)
