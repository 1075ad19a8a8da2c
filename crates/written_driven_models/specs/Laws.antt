-- Written models and drivers keep apart, and read back, in any language of models. (That sections hold drivers is this project's
-- rule.)
use Rattle.std.specs.Prelude.{◌≡◌, ℕ, List, [], ◌∷◌, ◌++◌, map, Ok}
use Rattle.std.specs.List.{AllByRecursion}
use Rattle.written_modules.specs.lexer.declared.span.Span.{Span}
use Rattle.driver_models.specs.declared.model.DriverModel.{DriverModel}
use Rattle.driver_models.specs.Cores.{Core}
use Rattle.written_modules.specs.driver_sections.Sections as sections
use Rattle.sectioned_texts.specs.DrivenModels.{taken_names, rest_of, driven_models}
use Rattle.written_modules.specs.grammar_reader.ReadBack.{ReadsBack}
use Rattle.written_driven_models.specs.WrittenDrivers.{DriverReadsBack}
use Rattle.written_driven_models.specs.Texts.{WrittenLanguage, WrittenModel, models_of, drivers_of, written_text, models_text}

-- the sections of a text
abbrev pub sections_of : {M : Type 0} → WrittenLanguage M → List ℕ → List Span
sections_of w text = sections.sections w.language.vocabulary w.language.marks text

-- the bytes of each section
abbrev pub section_texts : {M : Type 0} → WrittenLanguage M → List ℕ → List (List ℕ)
section_texts w text = map (sections.text_of text) (sections_of w text)

-- The sections of a text are those of these drivers, and around them it is the text of these models, and of no others.
pub record HoldsApart {M : Type 0} (w : WrittenLanguage M) (text : List ℕ) (ms : List M) (drivers : List DriverModel) :
    Type 0 where
  pub sections : section_texts w text ≡ map w.drivers.driver_section drivers
  pub models : ReadsBack w.language.text w.IsText (rest_of w.language text) ms

-- Which models of a language are well formed together, which drivers a section can declare, and which where some names are taken
-- and some models may be their cores.
pub record WellFormedness (M : Type 0) : Type 1 where
  pub AreWellFormed : List M → Type 0
  pub CanBeDeclared : DriverModel → Type 0
  pub IsWellFormedDriver : List (List ℕ) → List Core → DriverModel → Type 0

module _ {M : Type 0} (w : WrittenLanguage M) (r : WellFormedness M) where
  -- a driver that is well formed reads back from what is written of it
  abbrev pub WrittenDriversReadBack : Type 0
  WrittenDriversReadBack =
      (names : List (List ℕ)) (cores : List Core) (d : DriverModel) → r.IsWellFormedDriver names cores d
      → DriverReadsBack w.drivers names cores d

  -- the text of well formed models and drivers keeps them apart
  abbrev pub WrittenDriversKeepApart : Type 0
  WrittenDriversKeepApart =
      (xs : List (WrittenModel M)) → r.AreWellFormed (models_of xs) → AllByRecursion r.CanBeDeclared (drivers_of xs)
      → HoldsApart w (written_text w xs) (models_of xs) (drivers_of xs)

  -- the text of well formed models alone has no section
  abbrev pub WrittenModelsHaveNoSections : Type 0
  WrittenModelsHaveNoSections = (ms : List M) → r.AreWellFormed ms → sections_of w (models_text w ms) ≡ []

  -- Each of these drivers can be declared by a section of a text with these models, behind the drivers before it.
  abbrev pub AreWellFormedDrivers : List M → List DriverModel → List DriverModel → Type 0
  AreWellFormedDrivers ms done [] = Unit {0}
  AreWellFormedDrivers ms done (driver ∷ drivers) =
      r.IsWellFormedDriver (taken_names w.language ms done) (map w.language.core ms) driver
      × AreWellFormedDrivers ms (done ++ driver ∷ []) drivers

  -- well formed models and drivers read back from what is written of them
  abbrev pub WrittenModelsReadBack : Type 0
  WrittenModelsReadBack =
      (xs : List (WrittenModel M)) → r.AreWellFormed (models_of xs) → AreWellFormedDrivers (models_of xs) [] (drivers_of xs)
      → driven_models w.language (written_text w xs) ≡ Ok (record { models = models_of xs; drivers = drivers_of xs })
