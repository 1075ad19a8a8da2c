-- The text of models and of the drivers over them, in any language of models. (That a driver stands behind the model that is its
-- core is this project's layout.)
use Rattle.std.specs.Prelude.{ℕ, List, [], ◌∷◌, ◌++◌, map, Option, Some, None}
use Rattle.std.specs.List.{flat_map}
use Rattle.driver_models.specs.declared.model.DriverModel.{DriverModel}
use Rattle.sectioned_texts.specs.DrivenModels.{SectionLanguage}
use Rattle.written_driven_models.specs.WrittenDrivers.{WrittenSections}

-- How a language is written: the language, what stands before the models, a model's text, how drivers are written, and whether
-- bytes without sections are the text of models.
pub record WrittenLanguage (M : Type 0) : Type 1 where
  pub language : SectionLanguage M
  pub front : List ℕ
  pub model_text : M → List ℕ
  pub drivers : WrittenSections
  pub IsText : List ℕ → List M → Type 0

-- a model, and the driver over it, where there is one
pub record WrittenModel (M : Type 0) : Type 0 where
  pub model : M
  pub driver : Option DriverModel

abbrev pub driver_in : Option DriverModel → List DriverModel
driver_in None = []
driver_in (Some driver) = driver ∷ []

module _ {M : Type 0} where
  -- the models
  abbrev pub models_of : List (WrittenModel M) → List M
  models_of xs = map (λ (x : WrittenModel M). x.model) xs

  -- the drivers
  abbrev pub drivers_of : List (WrittenModel M) → List DriverModel
  drivers_of xs = flat_map (λ (x : WrittenModel M). driver_in x.driver) xs

module _ {M : Type 0} (w : WrittenLanguage M) where
  -- a driver's text, where there is one
  abbrev pub text_behind : Option DriverModel → List ℕ
  text_behind None = []
  text_behind (Some driver) = w.drivers.driver_text driver

  -- a model, and its driver behind it
  unfoldable pub written_model_text : WrittenModel M → List ℕ
  written_model_text x = w.model_text x.model ++ text_behind x.driver

  -- the text of models and drivers: each model with its driver
  unfoldable pub written_text : List (WrittenModel M) → List ℕ
  written_text xs = w.front ++ flat_map written_model_text xs

  -- the text of models alone
  unfoldable pub models_text : List M → List ℕ
  models_text ms = w.front ++ flat_map w.model_text ms
