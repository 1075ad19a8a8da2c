-- What holds of each driver that a section holds holds of the drivers of a text, and its models are those of the rest around its
-- sections.
use Rattle.std.proofs.Common.{◌≡◌, ℕ, List, [], ◌∷◌, ◌++◌, map, Result, Ok, Err, refl, subst}
use Rattle.std.specs.Prelude.{All}
use Rattle.std.specs.Result.{result_map_both}
use Rattle.std.proofs.lemmas.List.Elements.{All-nil, All-push}
use Rattle.stimulus.specs.LineMeanings.{and_then}
use Rattle.lexer.specs.declared.span.Span.{Span}
use Rattle.udp_tables.specs.declared.models.ModelFault.{ModelFault}
use Rattle.driver_models.specs.declared.model.DriverModel.{DriverModel}
use Rattle.driver_models.specs.Cores.{Core}
use Rattle.driver_sections.specs.Sections.{sections, text_of}
use Rattle.sectioned_texts.specs.declared.driven_models.DrivenModels.{DrivenModels}
use Rattle.sectioned_texts.specs.DrivenModels.{SectionLanguage, fault_behind, taken_names, more_drivers, with_drivers, driven_by}
use Rattle.sectioned_texts.specs.DrivenModels.{rest_of, driven_models}

-- this holds of each driver that a section holds
abbrev pub HoldsOfSections : {M : Type 0} → SectionLanguage M → (DriverModel → Type 0) → Type 0
HoldsOfSections l P =
    (names : List (List ℕ)) (cores : List Core) (bytes : List ℕ) (driver : DriverModel) → l.section names cores bytes ≡ Ok driver
    → P driver

-- what a text that is read comes to
pub record AreParts {M : Type 0} (l : SectionLanguage M) (P : DriverModel → Type 0) (answer : Result (List M) ModelFault)
    (found : DrivenModels M) : Type 0 where
  pub models : answer ≡ Ok found.models
  pub drivers : All P found.drivers

module _ {M : Type 0} (l : SectionLanguage M) (P : DriverModel → Type 0) (hold : HoldsOfSections l P) (bytes : List ℕ) where
  -- the drivers of sections behind others
  more_hold : (models : List M) (drivers : List DriverModel) (found : List Span) (all : List DriverModel)
      → more_drivers l bytes models drivers found ≡ Ok all
      → All P drivers → All P all
  more_hold models drivers [] all e h = subst (All P) (let same : drivers ≡ all = cc in same) h
  more_hold models drivers (s ∷ found) all e h =
      by (l.section (taken_names l models drivers) (map l.core models) (text_of bytes s)) refl
      (λ driver. more_hold models (drivers ++ driver ∷ []) found all) e
    where
      by : (answer : Result DriverModel ModelFault)
          → l.section (taken_names l models drivers) (map l.core models) (text_of bytes s) ≡ answer
          → ((driver : DriverModel) → more_drivers l bytes models (drivers ++ driver ∷ []) found ≡ Ok all
          → All P (drivers ++ driver ∷ []) → All P all)
          → and_then (result_map_both (λ driver. driver) (fault_behind s.at) answer)
          (λ driver. more_drivers l bytes models (drivers ++ driver ∷ []) found) ≡ Ok all
          → All P all
      by (Ok driver) is again f =
          again driver f (All-push P drivers driver h
          (hold (taken_names l models drivers) (map l.core models) (text_of bytes s) driver is))
      by (Err g) is again f = absurd cc

  -- the parts of a text with these models
  with_parts : (found : List Span) (models : List M) (all : DrivenModels M) → with_drivers l bytes found models ≡ Ok all
      → AreParts l P (Ok models) all
  with_parts found models all e = by (more_drivers l bytes models [] found) refl e
    where
      by : (answer : Result (List DriverModel) ModelFault) → more_drivers l bytes models [] found ≡ answer
          → and_then answer (λ drivers. Ok (record { models = models; drivers = drivers })) ≡ Ok all
          → AreParts l P (Ok models) all
      by (Ok drivers) is f =
          let same : record { models = models; drivers = drivers } ≡ all = cc in
          subst (AreParts l P (Ok models)) same
          (record { models = refl; drivers = more_hold models [] found drivers is (All-nil P) })
      by (Err g) is f = absurd cc

  parts_by : (found : List Span) (rest : List ℕ) (answer : Result (List M) ModelFault) (all : DrivenModels M)
      → driven_by l bytes found rest answer ≡ Ok all
      → AreParts l P answer all
  parts_by found rest (Ok models) all e = with_parts found models all e
  parts_by found rest (Err f) all e = absurd cc

  -- the parts of a text
  pub read_parts : (all : DrivenModels M) → driven_models l bytes ≡ Ok all → AreParts l P (l.text (rest_of l bytes)) all
  unfolding driven_models
  read_parts all e = parts_by (sections l.vocabulary l.marks bytes) (rest_of l bytes) (l.text (rest_of l bytes)) all e
