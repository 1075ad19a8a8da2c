use Rattle.std.proofs.Common.{drop}
use Rattle.model_files.specs.ModelNames.{HaveOwnNames}
use Rattle.model_replay.proofs.Catalogs.{Lists}
use Rattle.model_replay.proofs.catalog.models_named.Given as goal

abbrev pub invariant-loop-model : goal.invariant-loop-model
invariant-loop-model g l = record {
  lists : HaveOwnNames g.L.ModelLanguage.language l.models → Lists g.L.ModelLanguage.language l.catalog (drop l.model-index l.models) l.models;
}
