use Rattle.std.proofs.Common.{◌≡◌, ◌++◌, drop, map}
use Rattle.file_models.specs.FileModels.{own_model}
use Rattle.file_models.proofs.models.own_models.Given as goal

abbrev pub invariant-loop-core : goal.invariant-loop-core
invariant-loop-core g l =
    l.models.items ++ map (own_model g.L.SectionLanguage.language) (drop l.core-index l.cores) ≡ map (own_model g.L.SectionLanguage.language) l.cores
