-- A text around whose sections models stand, and whose sections hold drivers, reads as both.
use Rattle.std.proofs.Common.{◌≡◌, ℕ, List, [], ◌∷◌, ◌++◌, map, Result, Ok, sym, ap, ◌∙◌, append_assoc}
use Rattle.std.proofs.lemmas.List.{append-nil}
use Rattle.std.specs.Result.{result_map_both}
use Rattle.stimulus.specs.LineMeanings.{and_then}
use Rattle.lexer.specs.declared.span.Span.{Span}
use Rattle.udp_tables.specs.declared.models.ModelFault.{ModelFault}
use Rattle.driver_models.specs.declared.model.DriverModel.{DriverModel}
use Rattle.driver_sections.specs.Sections.{sections, text_of}
use Rattle.sectioned_texts.specs.DrivenModels.{SectionLanguage, fault_behind, taken_names, more_drivers, driven_by, rest_of}
use Rattle.sectioned_texts.specs.DrivenModels.{driven_models}

module _ {M : Type 0} (l : SectionLanguage M) (models : List M) (text : DriverModel → List ℕ) where
  -- each of these drivers is read from its text, behind those before it
  abbrev pub AreRead : List DriverModel → List DriverModel → Type 0
  AreRead done [] = Unit {0}
  AreRead done (d ∷ drivers) = (l.section (taken_names l models done) (map l.core models) (text d) ≡ Ok d)
      × AreRead (done ++ d ∷ []) drivers

  one_read : (bytes : List ℕ) (done : List DriverModel) (d : DriverModel) (s : Span) (found : List Span)
      → text_of bytes s ≡ text d →
      l.section (taken_names l models done) (map l.core models) (text d) ≡ Ok d
      → more_drivers l bytes models done (s ∷ found) ≡ more_drivers l bytes models (done ++ d ∷ []) found
  one_read bytes done d s found e h =
      ap (λ (answer : Result DriverModel ModelFault). and_then (result_map_both (λ driver. driver) (fault_behind s.at) answer)
      (λ driver. more_drivers l bytes models (done ++ driver ∷ []) found))
      (ap (l.section (taken_names l models done) (map l.core models)) e ∙ h)

  drivers_read : (bytes : List ℕ) (done drivers : List DriverModel) (found : List Span)
      → map (text_of bytes) found ≡ map text drivers → AreRead done drivers →
      more_drivers l bytes models done found ≡ Ok (done ++ drivers)
  drivers_read bytes done [] [] e h = ap Ok (sym (append-nil done))
  drivers_read bytes done [] (s ∷ found) e h = absurd cc
  drivers_read bytes done (d ∷ drivers) [] e h = absurd cc
  drivers_read bytes done (d ∷ drivers) (s ∷ found) e h =
      let first : text_of bytes s ≡ text d = cc in
      let others : map (text_of bytes) found ≡ map text drivers = cc in
      one_read bytes done d s found first h.0 ∙ drivers_read bytes (done ++ d ∷ []) drivers found others h.1
      ∙ ap Ok (append_assoc done (d ∷ []) drivers)

  -- the models and the drivers of a text
  pub text_read : (bytes : List ℕ) (drivers : List DriverModel) → l.text (rest_of l bytes) ≡ Ok models →
      map (text_of bytes) (sections l.vocabulary l.marks bytes) ≡ map text drivers → AreRead [] drivers →
      driven_models l bytes ≡ Ok (record { models = models; drivers = drivers })
  unfolding driven_models
  text_read bytes drivers e f h =
      ap (driven_by l bytes (sections l.vocabulary l.marks bytes) (rest_of l bytes)) e
      ∙ ap (λ (answer : Result (List DriverModel) ModelFault). and_then answer
      (λ found. Ok (record { models = models; drivers = found })))
      (drivers_read bytes [] drivers (sections l.vocabulary l.marks bytes) f h)
