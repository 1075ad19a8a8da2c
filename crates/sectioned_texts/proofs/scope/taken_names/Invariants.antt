use Rattle.std.proofs.Common.{◌≡◌, ◌++◌, drop, flat_map}
use Rattle.sectioned_texts.proofs.scope.taken_names.Given as goal

abbrev pub invariant-loop-model : goal.invariant-loop-model
invariant-loop-model g l =
    l.names ++ flat_map g.L.SectionLanguage.language.names (drop l.model-index l.models) ≡ flat_map g.L.SectionLanguage.language.names l.models
