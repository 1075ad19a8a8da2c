-- Laws of texts in whose sections drivers stand.
use Rattle.std.proofs.Common.{◌≡◌, ◌⊎◌, ℕ, ◌<◌, List, [], ◌∷◌, ◌++◌, length, map, take, get_or, Result, Ok, Err, IfOk, refl, sym}
use Rattle.std.proofs.Common.{ap, subst, ◌∙◌, arith, length-append, inl, inr}
use Rattle.std.specs.Result.{result_map_both}
use Rattle.std.proofs.lemmas.Bool.{cases_order}
use Rattle.std.proofs.lemmas.List.{take-append-le, get_or_push}
use Rattle.std.proofs.Math.ListN.{get_or-append}
use Rattle.std.proofs.Math.Seq.{take-append_seam}
use Rattle.stimulus.specs.LineMeanings.{and_then}
use Rattle.lexer.specs.declared.span.Span.{Span}
use Rattle.udp_tables.specs.declared.models.ModelFault.{ModelFault}
use Rattle.driver_models.specs.declared.model.DriverModel.{DriverModel}
use Rattle.driver_sections.specs.Sections.{sections, blanked, text_of}
use Rattle.sectioned_texts.specs.declared.driven_models.DrivenModels.{DrivenModels}
use Rattle.sectioned_texts.specs.DrivenModels.{SectionLanguage, fault_behind, taken_names, more_drivers, with_drivers, driven_by}
use Rattle.sectioned_texts.specs.DrivenModels.{rest_of, driven_models}
use Rattle.driver_models.specs.Standing.{MayStand}
use Rattle.sectioned_texts.specs.Drivers.{HoldDrivers, AllMayStand}
use Rattle.sectioned_texts.specs.Laws.{without_drivers, ReadsAsBefore, HasGoodDrivers}

module _ {M : Type 0} (l : SectionLanguage M) (bytes : List ℕ) where
  -- a text without sections is its own rest
  abbrev with_sections : List Span → Result (DrivenModels M) ModelFault
  with_sections found = driven_by l bytes found (blanked bytes found) (l.text (blanked bytes found))

  without_sections : (answer : Result (List M) ModelFault)
      → driven_by l bytes [] bytes answer ≡ result_map_both without_drivers (λ f. f) answer
  without_sections (Ok models) = refl
  without_sections (Err f) = refl

  pub reads_as_before : ReadsAsBefore l bytes
  unfolding driven_models
  reads_as_before e = ap with_sections e ∙ without_sections (l.text bytes)

-- one more driver behind others
one_more : {M : Type 0} (l : SectionLanguage M) (models : List M) (drivers : List DriverModel) (driver : DriverModel)
    → AllMayStand l models drivers
    → MayStand l.vocabulary.is_same (taken_names l models drivers) (map l.core models) driver
    → AllMayStand l models (drivers ++ driver ∷ [])
one_more {M} l models drivers driver all own = λ k other h. by k other h (cases_order k (length drivers))
  where
    by : (k : ℕ) (other : DriverModel) → k < length (drivers ++ driver ∷ []) → (k ≡ length drivers)
        ⊎ ((k < length drivers) ⊎ (length drivers < k))
        → MayStand l.vocabulary.is_same (taken_names l models (take k (drivers ++ driver ∷ []))) (map l.core models)
        (get_or (drivers ++ driver ∷ []) k other)
    by k other h (inl e) =
        subst (λ (before : List DriverModel). MayStand l.vocabulary.is_same (taken_names l models before) (map l.core models)
        (get_or (drivers ++ driver ∷ []) k other))
        (sym (ap (λ (n : ℕ). take n (drivers ++ driver ∷ [])) e ∙ take-append_seam drivers (driver ∷ [])))
        (subst (λ (d : DriverModel). MayStand l.vocabulary.is_same (taken_names l models drivers) (map l.core models) d)
        (sym (get_or_push drivers driver other k (sym e))) own)
    by k other h (inr (inl e)) =
        subst (λ (before : List DriverModel). MayStand l.vocabulary.is_same (taken_names l models before) (map l.core models)
        (get_or (drivers ++ driver ∷ []) k other))
        (sym (take-append-le k drivers (driver ∷ []) (omega (arith, e))))
        (subst (λ (d : DriverModel). MayStand l.vocabulary.is_same (taken_names l models (take k drivers)) (map l.core models) d)
        (sym (get_or-append drivers (driver ∷ []) other k e)) (all k other e))
    by k other h (inr (inr e)) = absurd (omega (arith, e, h, length-append drivers (driver ∷ [])))

module _ {M : Type 0} (l : SectionLanguage M) (hold : HoldDrivers l) (bytes : List ℕ) (models : List M) where
  -- the drivers of sections behind others
  stand : (drivers : List DriverModel) (found : List Span) (all : List DriverModel)
      → more_drivers l bytes models drivers found ≡ Ok all
      → AllMayStand l models drivers → AllMayStand l models all
  stand drivers [] all e h = subst (AllMayStand l models) (let same : drivers ≡ all = cc in same) h
  stand drivers (s ∷ found) all e h =
      by (l.section (taken_names l models drivers) (map l.core models) (text_of bytes s)) refl
      (λ driver. stand (drivers ++ driver ∷ []) found all) e
    where
      by : (answer : Result DriverModel ModelFault)
          → l.section (taken_names l models drivers) (map l.core models) (text_of bytes s) ≡ answer
          → ((driver : DriverModel) → more_drivers l bytes models (drivers ++ driver ∷ []) found ≡ Ok all
          → AllMayStand l models (drivers ++ driver ∷ []) → AllMayStand l models all)
          → and_then (result_map_both (λ driver. driver) (fault_behind s.at) answer)
          (λ driver. more_drivers l bytes models (drivers ++ driver ∷ []) found) ≡ Ok all
          → AllMayStand l models all
      by (Ok driver) is again f =
          again driver f (one_more l models drivers driver h
          (hold (taken_names l models drivers) (map l.core models) (text_of bytes s) driver is))
      by (Err g) is again f = absurd cc

  none_stand : AllMayStand l models []
  none_stand = λ k other h. absurd (omega (arith, h))

  read_stand : (sections : List Span) (found : DrivenModels M) → with_drivers l bytes sections models ≡ Ok found
      → AllMayStand l found.models found.drivers
  read_stand sections found e = by (more_drivers l bytes models [] sections) refl e
    where
      by : (answer : Result (List DriverModel) ModelFault) → more_drivers l bytes models [] sections ≡ answer
          → and_then answer (λ drivers. Ok (record { models = models; drivers = drivers })) ≡ Ok found
          → AllMayStand l found.models found.drivers
      by (Ok drivers) is f =
          let same : record { models = models; drivers = drivers } ≡ found = cc in
          subst (λ (d : DrivenModels M). AllMayStand l d.models d.drivers) same (stand [] sections drivers is none_stand)
      by (Err g) is f = absurd cc

module _ {M : Type 0} (l : SectionLanguage M) (hold : HoldDrivers l) where
  all_stand : (bytes : List ℕ) (sections : List Span) (rest : List ℕ) (answer : Result (List M) ModelFault)
      (found : DrivenModels M)
      → driven_by l bytes sections rest answer ≡ Ok found → AllMayStand l found.models found.drivers
  all_stand bytes sections rest (Ok models) found e = read_stand l hold bytes models sections found e
  all_stand bytes sections rest (Err f) found e = absurd cc

  -- the drivers of a text
  pub drivers_stand : (bytes : List ℕ) → HasGoodDrivers l bytes
  unfolding driven_models
  drivers_stand bytes found e =
      all_stand bytes (sections l.vocabulary l.marks bytes) (rest_of l bytes) (l.text (rest_of l bytes)) found e

  -- where a text is read, its drivers may stand
  pub read_drivers_stand : (bytes : List ℕ) (answer : Result (DrivenModels M) ModelFault) → answer ≡ driven_models l bytes
      → IfOk answer (λ found. AllMayStand l found.models found.drivers)
  read_drivers_stand bytes (Ok found) e = drivers_stand bytes found (sym e)
  read_drivers_stand bytes (Err f) e = tt
