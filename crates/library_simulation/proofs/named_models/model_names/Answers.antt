use Rattle.library_simulation.proofs.CatalogLemmas.{model_named}
use Rattle.library_simulation.proofs.named_models.model_names.Goals as goal

pub loop-model-preserved : goal.loop-model-preserved
loop-model-preserved g c = record {
  names = model_named c.args.spelling c.args.models.now c.loop-model.model-index c.model-item.result _ _ _ c.loop-model-test.true c.model-item.is
      c.loop-model.invariant.names (rw c.as_slice.ensures at c.in_ok-add.ensures);
}
