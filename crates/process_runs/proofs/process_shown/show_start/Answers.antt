use Rattle.std.proofs.Common.{◌∙◌, add-one}
use Rattle.cell_machine.proofs.EachLemmas.{map-take-more}
use Rattle.vital_models.specs.Sound.{IsOutput}
use Rattle.process_runs.specs.EntitySteps.{output_first}
use Rattle.std.proofs.Common.{None}
use Rattle.run_parts.proofs.Fronts.{all-at}
use Rattle.process_runs.proofs.process_shown.show_start.Goals as goal

pub loop-i-preserved : goal.loop-i-preserved
loop-i-preserved c =
    let m = c.args.values.now.tables.model.now in
    record {
      front =
          c.in_ok-push.ensures.ok
          ∙ rw add-one
          (map-take-more (output_first m c.args.values.now.inputs.now c.args.values.now.states.now) m.outputs c.loop-i.i c.entry-output.result.now
          _ c.loop-i.shown c.entry-output.ensures.is
          (λ i. record { port = c.entry-output.result.now.port; value = c.output_value-value.ensures.value i; delay = None })
          c.loop-i.invariant.front);
      room = c.output_value-value.ensures.len ∙ c.loop-i.invariant.room;
    }

pub output_value-value-requires-clause-known : goal.output_value-value-requires-clause-known
output_value-value-requires-clause-known c = c.output_rows-known.ensures c.entry-output.result.now c.entry-output.ensures.is

pub output_value-value-requires-clause-value : goal.output_value-value-requires-clause-value
output_value-value-requires-clause-value c =
    let m = c.args.values.now.tables.model.now in
    (all-at (IsOutput m) m.outputs c.loop-i.i c.entry-output.result.now c.requires.sound.outputs c.entry-output.ensures.is).valued
