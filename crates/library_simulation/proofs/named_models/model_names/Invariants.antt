use Rattle.std.proofs.Common.{◌≡◌, take}
use Rattle.bool_functions.specs.NameList.{AreDistinct}
use Rattle.library_simulation.specs.NamedModels.{names_of}
use Rattle.library_simulation.proofs.named_models.model_names.Given as goal

abbrev pub invariant-loop-model : goal.invariant-loop-model
invariant-loop-model g l = record {
  names : AreDistinct (names_of l.spelling l.models) → l.names ≡ names_of l.spelling (take l.model-index l.models);
}
