use Rattle.std.proofs.Common.{◌∙◌, add-one}
use Rattle.cell_machine.proofs.EachLemmas.{map-take-more}
use Rattle.module_runs.specs.KeptValues.{kept_value}
use Rattle.module_runs.proofs.kept_values.find_all.Goals as goal

pub loop-i-preserved : goal.loop-i-preserved
loop-i-preserved c =
    let v = c.args.values.now in
    let m = v.tables.model.now in
    record {
      front =
          c.in_ok-push.ensures.ok
          ∙ rw add-one
          (map-take-more (kept_value m v.inputs.now v.states.now) m.instances c.loop-i.i c.instance_at-instance.result.now _ c.loop-i.kept
          c.instance_at-instance.ensures.is c.instance_value.ensures.value c.loop-i.invariant.front);
      room = c.instance_value.ensures.len ∙ c.loop-i.invariant.room;
    }
