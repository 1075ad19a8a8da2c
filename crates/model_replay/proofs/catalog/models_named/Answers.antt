use Rattle.model_replay.proofs.Catalogs.{lists_more}
use Rattle.model_replay.proofs.catalog.models_named.Goals as goal

pub loop-model-preserved : goal.loop-model-preserved
loop-model-preserved g c = record {
  lists = lists_more g.L.ModelLanguage.language _ _ c.args.models.now c.loop-model.model-index c.model-item.result _ _ _ _ c.loop-model-test.true c.model-item.is c.loop-model.invariant.lists c.name.ensures
      c.ports.ensures c.in_ok-ports.ensures c.in_ok-add.ensures.added;
}
