-- What is known of the models and the drivers of a text, in any language.
use Rattle.std.proofs.Common.{ℕ, Bool, List}
use Rattle.std.specs.Prelude.{All}
use Rattle.file_models.specs.sectioned_texts.declared.driven_models.DrivenModels.{DrivenModels}
use Rattle.file_models.specs.sectioned_texts.DrivenModels.{SectionLanguage}
use Rattle.file_models.specs.sectioned_texts.Drivers.{AllMayStand}
use Rattle.model_replay.proofs.NamedDrivers.{IsNamed}

-- the models are as the language asks, the drivers may stand behind them, and have names, of which these are the same
pub record AreFound {M : Type 0} (sections : SectionLanguage M) (are_well_formed : List M → Type 0) (is_name : List ℕ → Bool)
    (eq : List ℕ → List ℕ → Bool) (found : DrivenModels M) : Type 0 where
  pub models : are_well_formed found.models
  pub stand : AllMayStand sections found.models found.drivers
  pub named : All (IsNamed is_name eq) found.drivers
