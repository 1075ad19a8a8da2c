-- Written models and drivers keep apart, and read back, in any language of which the pieces are known.
use Rattle.std.proofs.Common.{◌≡◌, ℕ, false, List, [], ◌∷◌, ◌++◌, map, Option, Some, None, Ok, refl, sym, ap, subst, ◌∙◌}
use Rattle.std.proofs.Common.{flat_map}
use Rattle.std.proofs.lemmas.List.{map-append}
use Rattle.std.specs.List.{AllByRecursion}
use Rattle.written_modules.specs.lexer.Tokens.{scan_of}
use Rattle.written_modules.specs.lexer.Separators.{spelled}
use Rattle.driver_models.specs.declared.model.DriverModel.{DriverModel}
use Rattle.driver_models.specs.Cores.{Core}
use Rattle.written_modules.specs.driver_sections.Sections.{text_of}
use Rattle.written_modules.specs.grammar_reader.ReadBack.{ReadsBack}
use Rattle.written_modules.proofs.grammar_reader.Fronts.{Front, each}
use Rattle.written_modules.proofs.section_outlines.Outlined.{Outlined, IsOutlined, nothing, one_behind, each_outlined}
use Rattle.written_modules.proofs.section_outlines.Outlined.{outlined_is}
use Rattle.sectioned_texts.specs.DrivenModels.{taken_names, rest_of, driven_models}
use Rattle.sectioned_texts.proofs.WrittenTexts.{AreRead, text_read}
use Rattle.written_modules.proofs.ModuleReading.{all_parts}
use Rattle.written_driven_models.specs.Texts.{WrittenLanguage, WrittenModel, models_of, driver_in, drivers_of, text_behind}
use Rattle.written_driven_models.specs.Texts.{written_model_text, written_text, models_text}
use Rattle.written_driven_models.specs.Laws.{WellFormedness, sections_of, WrittenDriversKeepApart, WrittenModelsHaveNoSections}
use Rattle.written_driven_models.specs.Laws.{AreWellFormedDrivers, HoldsApart, WrittenModelsReadBack}

-- Before any bytes these tokens stand in a text of a language outside its sections, which are these.
abbrev pub Outlines : {M : Type 0} → WrittenLanguage M → List ℕ → Front → List (List ℕ) → Type 0
Outlines w text tokens found = Outlined w.language.vocabulary w.language.marks false text tokens found false

-- What is known of the pieces of texts in a language: the tokens of what stands before models, and of models, in which no section
-- begins; the text of a driver, which is one section and reads as this driver; and what the tokens of models are read as.
pub record Pieces {M : Type 0} (w : WrittenLanguage M) (r : WellFormedness M) : Type 1 where
  pub IsPart : M → Type 0
  pub IsNamed : DriverModel → Type 0
  pub front_tokens : Front
  pub tokens : M → Front
  pub front : Outlines w w.front front_tokens []
  pub model : (m : M) → IsPart m → Outlines w (w.model_text m) (tokens m) []
  pub driver : (d : DriverModel) → IsNamed d → Outlines w (w.drivers.driver_text d) (λ s. s) (w.drivers.driver_section d ∷ [])
  pub parts : (ms : List M) → r.AreWellFormed ms → AllByRecursion IsPart ms
  pub named : (d : DriverModel) → r.CanBeDeclared d → IsNamed d
  pub declared : (names : List (List ℕ)) (cores : List Core) (d : DriverModel) → r.IsWellFormedDriver names cores d
      → r.CanBeDeclared d
  pub section_read : (names : List (List ℕ)) (cores : List Core) (d : DriverModel) → r.IsWellFormedDriver names cores d
      → w.language.section names cores (w.drivers.driver_section d) ≡ Ok d
  pub models_read : (bytes : List ℕ) (ms : List M) → r.AreWellFormed ms
      → spelled (scan_of w.language.vocabulary.lexis bytes) ≡ (front_tokens (each tokens ms []), false)
      → ReadsBack w.language.text w.IsText bytes ms

none_of_none : {A B : Type 0} (f : A → B) (xs : List A) → map f xs ≡ [] → xs ≡ []
none_of_none f [] e = refl
none_of_none f (x ∷ xs) e = absurd cc

module _ {M : Type 0} (w : WrittenLanguage M) (r : WellFormedness M) (p : Pieces w r) where
  abbrev IsWhole : WrittenModel M → Type 0
  IsWhole x = p.IsPart x.model × AllByRecursion p.IsNamed (driver_in x.driver)

  -- the sections of a model and its driver
  abbrev sections_in : WrittenModel M → List (List ℕ)
  sections_in x = map w.drivers.driver_section (driver_in x.driver)

  behind_it : (driver : Option DriverModel) → AllByRecursion p.IsNamed (driver_in driver)
      → Outlines w (text_behind w driver) (λ s. s) (map w.drivers.driver_section (driver_in driver))
  behind_it None h = nothing
  behind_it (Some d) h = p.driver d h.0

  whole : (x : WrittenModel M) → IsWhole x → Outlines w (written_model_text w x) (p.tokens x.model) (sections_in x)
  unfolding written_model_text
  whole x h = one_behind (p.model x.model h.0) (behind_it x.driver h.1)

  abbrev all_tokens : List (WrittenModel M) → Front
  all_tokens xs s = p.front_tokens (each (λ (x : WrittenModel M). p.tokens x.model) xs s)

  all_outlined : (xs : List (WrittenModel M)) → AllByRecursion IsWhole xs
      → Outlines w (written_text w xs) (all_tokens xs) (flat_map sections_in xs)
  unfolding written_text
  all_outlined xs h = one_behind p.front (each_outlined IsWhole whole xs h)

  -- The models and the drivers in order.

  same_tokens : (xs : List (WrittenModel M))
      → each (λ (x : WrittenModel M). p.tokens x.model) xs [] ≡ each p.tokens (models_of xs) []
  same_tokens [] = refl
  same_tokens (x ∷ xs) = ap (p.tokens x.model) (same_tokens xs)

  same_sections : (xs : List (WrittenModel M)) → flat_map sections_in xs ≡ map w.drivers.driver_section (drivers_of xs)
  same_sections [] = refl
  same_sections (x ∷ xs) =
      ap (λ (found : List (List ℕ)). sections_in x ++ found) (same_sections xs)
      ∙ sym (map-append w.drivers.driver_section (driver_in x.driver) (drivers_of xs))

  are_whole : (xs : List (WrittenModel M)) → AllByRecursion p.IsPart (models_of xs) → AllByRecursion p.IsNamed (drivers_of xs)
      → AllByRecursion IsWhole xs
  are_whole [] h k = tt
  are_whole (x ∷ xs) h k =
      let split = all_parts p.IsNamed (driver_in x.driver) (drivers_of xs) k in
      ((h.0, split.0), are_whole xs h.1 split.1)

  all_named : (drivers : List DriverModel) → AllByRecursion r.CanBeDeclared drivers → AllByRecursion p.IsNamed drivers
  all_named [] h = tt
  all_named (d ∷ drivers) h = (p.named d h.0, all_named drivers h.1)

  -- the text of well formed models and drivers keeps them apart
  pub kept_apart : WrittenDriversKeepApart w r
  kept_apart xs h k =
      let found : IsOutlined w.language.vocabulary w.language.marks (written_text w xs) (all_tokens xs [])
      (flat_map sections_in xs) =
      outlined_is (all_outlined xs (are_whole xs (p.parts (models_of xs) h) (all_named (drivers_of xs) k))) in
      record {
        sections = found.texts ∙ same_sections xs;
        models = p.models_read (rest_of w.language (written_text w xs)) (models_of xs) h
            (found.tokens_around ∙ ap (λ (s : List (List ℕ)). (p.front_tokens s, false)) (same_tokens xs));
      }

  -- Models alone.

  abbrev no_texts : M → List (List ℕ)
  no_texts m = []

  none_of_each : (ms : List M) → flat_map no_texts ms ≡ []
  none_of_each [] = refl
  none_of_each (m ∷ ms) = none_of_each ms

  models_outlined : (ms : List M) → AllByRecursion p.IsPart ms
      → Outlines w (models_text w ms) (λ s. p.front_tokens (each p.tokens ms s)) (flat_map no_texts ms)
  unfolding models_text
  models_outlined ms h = one_behind p.front (each_outlined p.IsPart p.model ms h)

  pub no_sections : WrittenModelsHaveNoSections w r
  no_sections ms h =
      none_of_none (text_of (models_text w ms)) (sections_of w (models_text w ms))
      ((outlined_is (models_outlined ms (p.parts ms h))).texts ∙ none_of_each ms)

  -- Both read back.

  all_declared : (ms : List M) (done drivers : List DriverModel) → AreWellFormedDrivers w r ms done drivers
      → AllByRecursion r.CanBeDeclared drivers
  all_declared ms done [] h = tt
  all_declared ms done (d ∷ drivers) h =
      (p.declared (taken_names w.language ms done) (map w.language.core ms) d h.0, all_declared ms (done ++ d ∷ []) drivers h.1)

  all_read : (ms : List M) (done drivers : List DriverModel) → AreWellFormedDrivers w r ms done drivers
      → AreRead w.language ms w.drivers.driver_section done drivers
  all_read ms done [] h = tt
  all_read ms done (d ∷ drivers) h =
      (p.section_read (taken_names w.language ms done) (map w.language.core ms) d h.0, all_read ms (done ++ d ∷ []) drivers h.1)

  -- what is well formed reads back
  pub read_back : WrittenModelsReadBack w r
  read_back xs h k =
      let apart = kept_apart xs h (all_declared (models_of xs) [] (drivers_of xs) k) in
      text_read w.language (models_of xs) w.drivers.driver_section (written_text w xs) (drivers_of xs) apart.models.answer
      apart.sections
      (all_read (models_of xs) [] (drivers_of xs) k)

  -- by another name of the text
  pub text_back : (xs : List (WrittenModel M)) (text : List ℕ) → text ≡ written_text w xs → r.AreWellFormed (models_of xs)
      → AreWellFormedDrivers w r (models_of xs) [] (drivers_of xs)
      → (driven_models w.language text ≡ Ok (record { models = models_of xs; drivers = drivers_of xs }))
      × HoldsApart w text (models_of xs) (drivers_of xs)
  text_back xs text e h k =
      subst (λ t. (driven_models w.language t ≡ Ok (record { models = models_of xs; drivers = drivers_of xs }))
      × HoldsApart w t (models_of xs) (drivers_of xs)) (sym e)
      (read_back xs h k, kept_apart xs h (all_declared (models_of xs) [] (drivers_of xs) k))
