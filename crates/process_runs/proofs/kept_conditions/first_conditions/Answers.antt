use Rattle.std.proofs.Common.{◌∙◌, add-one}
use Rattle.cell_machine.proofs.EachLemmas.{map-take-more}
use Rattle.model_traces.specs.ProcessValues.{truth_value}
use Rattle.process_runs.proofs.kept_conditions.first_conditions.Goals as goal

pub loop-i-preserved : goal.loop-i-preserved
loop-i-preserved c =
    let e = c.args.tables.now.model.now in
    record {
      front =
          c.in_ok-push.ensures.ok
          ∙ rw add-one
          (map-take-more (truth_value e.ports c.args.inputs.now) e.conditions c.loop-i.i c.entry-truth.result.now _ c.loop-i.values
          c.entry-truth.ensures.is c.value_of.ensures.value c.loop-i.invariant.front);
      room = c.value_of.ensures.len ∙ c.loop-i.invariant.room;
    }
