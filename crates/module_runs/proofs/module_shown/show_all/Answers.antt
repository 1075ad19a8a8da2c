use Rattle.std.proofs.Common.{◌<◌, sym, ap, ◌∙◌, length, add-one, arith}
use Rattle.std.proofs.lemmas.List.{length-set}
use Rattle.module_runs.specs.ShownPorts.{shown_step}
use Rattle.run_parts.proofs.Fronts.{map-step, map-done}
use Rattle.module_runs.proofs.module_shown.show_all.Goals as goal

pub loop-i-preserved : goal.loop-i-preserved
loop-i-preserved c =
    let v = c.args.values.now in
    let many : c.loop-i.i < length c.loop-i.shown = omega arith in
    record {
      whole =
          rw (c.set.ensures, add-one)
          (map-step (shown_step v.tables.model.now v.inputs.now v.states.now c.args.input) c.loop-i.shown c.loop-i.i _
          c.shown_step-now.result many (rw c.as_slice.ensures at c.shown_step-now.ensures.shown)
          ∙ c.loop-i.invariant.whole);
      kept = c.shown_step-now.ensures.kept;
      len = ap length c.set.ensures ∙ length-set c.loop-i.shown c.loop-i.i c.shown_step-now.result ∙ c.loop-i.invariant.len;
    }

pub returns-clause-stepped : goal.returns-clause-stepped
returns-clause-stepped c =
    let v = c.args.values.now in
    sym (map-done (shown_step v.tables.model.now v.inputs.now v.states.now c.args.input) c.loop-i.shown c.loop-i.i (omega arith))
    ∙ c.loop-i.invariant.whole
