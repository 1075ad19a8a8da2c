use Rattle.std.proofs.Common.{◌≡◌, ◌++◌, drop, map}
use Rattle.sectioned_texts.proofs.scope.cores_of.Given as goal

abbrev pub invariant-loop-model : goal.invariant-loop-model
invariant-loop-model g l =
    l.cores ++ map g.L.SectionLanguage.language.core (drop l.model-index l.models) ≡ map g.L.SectionLanguage.language.core l.models
