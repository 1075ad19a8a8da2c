-- What holds of the drivers of a text. (That a driver's core is a model of its text is this project's rule.)
use Rattle.std.specs.Prelude.{◌≡◌, ◌<◌, ℕ, List, length, map, take, slice_index_or, Ok}
use Rattle.driver_models.specs.declared.model.DriverModel.{DriverModel}
use Rattle.driver_models.specs.Cores.{Core}
use Rattle.driver_models.specs.Standing.{MayStand}
use Rattle.sectioned_texts.specs.DrivenModels.{SectionLanguage, taken_names}

-- the driver that a section holds may stand where it was read
abbrev pub HoldDrivers : {M : Type 0} → SectionLanguage M → Type 0
HoldDrivers l =
    (names : List (List ℕ)) (cores : List Core) (bytes : List ℕ) (driver : DriverModel) → l.section names cores bytes ≡ Ok driver
    → MayStand l.vocabulary.is_same names cores driver

-- each of these drivers may stand behind those before it, beside these models
abbrev pub AllMayStand : {M : Type 0} → SectionLanguage M → List M → List DriverModel → Type 0
AllMayStand l models drivers =
    (k : ℕ) (other : DriverModel) → k < length drivers
    → MayStand l.vocabulary.is_same (taken_names l models (take k drivers)) (map l.core models) (slice_index_or drivers k other)
