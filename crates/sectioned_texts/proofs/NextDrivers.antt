-- The drivers of sections, one behind the other.
use Rattle.std.proofs.Common.{◌≡◌, ℕ, ◌+◌, ◌<◌, List, [], ◌∷◌, ◌++◌, length, map, flat_map, drop, get_or, Result, Ok, Err, sym}
use Rattle.std.proofs.Common.{ap, ◌∙◌, append_assoc}
use Rattle.std.proofs.lemmas.List.{map-append, drop_more}
use Rattle.stimulus.specs.LineMeanings.{and_then}
use Rattle.lexer.specs.declared.span.Span.{Span}
use Rattle.udp_tables.specs.declared.models.ModelFault.{ModelFault}
use Rattle.driver_models.specs.declared.model.DriverModel.{DriverModel}
use Rattle.driver_models.specs.Cores.{Core}
use Rattle.sectioned_texts.specs.DrivenModels.{SectionLanguage, taken_names, section_driver, more_drivers}

module _ {M : Type 0} (l : SectionLanguage M) (text : List ℕ) (models : List M) (drivers : List DriverModel) where
  -- the names with that of one more driver
  pub taken_more : (driver : DriverModel)
      → taken_names l models (drivers ++ driver ∷ []) ≡ taken_names l models drivers ++ driver.name ∷ []
  taken_more driver =
      ap (λ (names : List (List ℕ)). flat_map l.names models ++ names)
      (map-append (λ (d : DriverModel). d.name) drivers (driver ∷ []))
      ∙ sym (append_assoc (flat_map l.names models) (map (λ (d : DriverModel). d.name) drivers) (driver.name ∷ []))

  module _ (names : List (List ℕ)) (cores : List Core) (sections : List Span) (i : ℕ) (d : Span) (h : i < length sections)
      (n : names ≡ taken_names l models drivers) (c : cores ≡ map l.core models) where
    here : section_driver l text (taken_names l models drivers) (map l.core models) (get_or sections i d) ≡ section_driver l text
        names cores (get_or sections i d)
    here = sym (λ j. section_driver l text (n j) (c j) (get_or sections i d))

    next : (answer : Result DriverModel ModelFault) → section_driver l text names cores (get_or sections i d) ≡ answer →
        more_drivers l text models drivers (drop i sections) ≡ and_then answer
        (λ driver. more_drivers l text models (drivers ++ driver ∷ []) (drop (i + 1) sections))
    next answer e =
        ap (more_drivers l text models drivers) (drop_more sections i d h)
        ∙ ap (λ (a : Result DriverModel ModelFault). and_then a
        (λ driver. more_drivers l text models (drivers ++ driver ∷ []) (drop (i + 1) sections))) (here ∙ e)

    -- the next section holds a driver
    pub next_driver : (driver : DriverModel) → Ok driver ≡ section_driver l text names cores (get_or sections i d) →
        more_drivers l text models drivers (drop i sections) ≡ more_drivers l text models (drivers ++ driver ∷ [])
        (drop (i + 1) sections)
    next_driver driver e = next (Ok driver) (sym e)

    -- the next section has a fault
    pub no_driver : (f : ModelFault) → Err f ≡ section_driver l text names cores (get_or sections i d) →
        more_drivers l text models drivers (drop i sections) ≡ Err f
    no_driver f e = next (Err f) (sym e)
