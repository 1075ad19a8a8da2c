use Rattle.std.proofs.Common.{◌<◌, sym, ap, ◌∙◌, length, arith}
use Rattle.std.proofs.lemmas.List.{length-set}
use Rattle.cell_machine.proofs.EachLemmas.{each-kept, each-done}
use Rattle.vital_models.specs.Sound.{IsOutput}
use Rattle.process_runs.specs.EntitySteps.{output_step}
use Rattle.run_parts.proofs.Fronts.{all-at}
use Rattle.process_runs.proofs.process_shown.show_entity.Goals as goal

pub loop-i-preserved : goal.loop-i-preserved
loop-i-preserved c =
    let v = c.args.values.now in
    let many : c.loop-i.i < length c.loop-i.shown = omega arith in
    record {
      len = ap length c.set.ensures ∙ length-set c.loop-i.shown c.loop-i.i c.output_step-now.result ∙ c.loop-i.invariant.len;
      kept = c.output_step-now.ensures.kept;
      room = c.output_step-now.ensures.len ∙ c.loop-i.invariant.room;
      whole =
          each-kept (output_step v.tables.model.now v.inputs.now v.states.now c.args.input) v.tables.model.now.outputs c.loop-i.shown c.loop-i.i _
          c.entry-output.ensures.is many (rw c.as_slice.ensures at c.output_step-now.ensures.shown) c.set.ensures c.loop-i.invariant.whole;
    }

pub returns-clause-stepped : goal.returns-clause-stepped
returns-clause-stepped c =
    let v = c.args.values.now in
    sym
    (each-done (output_step v.tables.model.now v.inputs.now v.states.now c.args.input) v.tables.model.now.outputs c.loop-i.shown c.loop-i.i
    (omega arith))
    ∙ c.loop-i.invariant.whole

pub output_step-now-requires-clause-known : goal.output_step-now-requires-clause-known
output_step-now-requires-clause-known c = c.output_rows-known.ensures c.entry-output.result.now c.entry-output.ensures.is

pub output_step-now-requires-clause-output : goal.output_step-now-requires-clause-output
output_step-now-requires-clause-output c =
    let m = c.args.values.now.tables.model.now in
    all-at (IsOutput m) m.outputs c.loop-i.i c.entry-output.result.now c.requires.sound.outputs c.entry-output.ensures.is
