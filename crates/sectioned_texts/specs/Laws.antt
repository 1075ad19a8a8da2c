-- Laws of texts in whose sections drivers stand.
use Rattle.std.specs.Prelude.{◌≡◌, ℕ, List, [], Ok}
use Rattle.std.specs.Result.{result_map_both}
use Rattle.driver_sections.specs.Sections.{sections}
use Rattle.sectioned_texts.specs.declared.driven_models.DrivenModels.{DrivenModels}
use Rattle.sectioned_texts.specs.DrivenModels.{SectionLanguage, driven_models}
use Rattle.sectioned_texts.specs.Drivers.{AllMayStand}

-- models without drivers
abbrev pub without_drivers : {M : Type 0} → List M → DrivenModels M
without_drivers models = record { models = models; drivers = [] }

-- a text without sections has the models, or the fault, that it has where sections are not known
abbrev pub ReadsAsBefore : {M : Type 0} → SectionLanguage M → List ℕ → Type 0
ReadsAsBefore l bytes =
    sections l.vocabulary l.marks bytes ≡ [] → driven_models l bytes ≡ result_map_both without_drivers (λ f. f) (l.text bytes)

-- all drivers of a text may stand where they do
abbrev pub HasGoodDrivers : {M : Type 0} → SectionLanguage M → List ℕ → Type 0
HasGoodDrivers {M} l bytes = (found : DrivenModels M) → driven_models l bytes ≡ Ok found
    → AllMayStand l found.models found.drivers
