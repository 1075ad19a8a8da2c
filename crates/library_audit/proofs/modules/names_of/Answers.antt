use Rattle.library_audit.proofs.ModuleNames.{names_begin, names_more, names_all}
use Rattle.library_audit.proofs.modules.names_of.Goals as goal

pub loop-model-init : goal.loop-model-init
loop-model-init c = record { fills = λ own. rw c.new-names.ensures (names_begin c.args.models.now own) }

pub loop-model-preserved : goal.loop-model-preserved
loop-model-preserved c = record {
  fills = names_more _ _ c.args.models.now c.loop-model.model-index c.model-item.result _ c.loop-model-test.true c.model-item.is c.loop-model.invariant.fills
      (rw c.as_slice.ensures at c.in_ok-add.ensures.added);
}

pub returns : goal.returns
returns c = λ own. names_all _ c.args.models.now _ c.loop-model-test.false (c.loop-model.invariant.fills own)
