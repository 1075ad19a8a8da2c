use Rattle.std.proofs.Common.{◌∙◌, ◌++◌, ◌∷◌, [], ap, None}
use Rattle.std.proofs.lemmas.List.{replicate-append-replicate}
use Rattle.model_files.proofs.known.nothing_known.Goals as goal

pub loop-preserved : goal.loop-preserved
loop-preserved g c = c.in_ok-push.ensures.items ∙ ap (λ xs. xs ++ None ∷ []) c.loop.invariant ∙ replicate-append-replicate c.loop.counter 1 None
