-- In a file of models that differ in their names each is the one that its name tells.
use Rattle.std.proofs.Common.{◌≡◌, ℕ, ◌+◌, Bool, true, false, ◌||◌, List, [], ◌∷◌, ◌++◌, length, map, refl, sym, ap, subst, ◌∙◌}
use Rattle.std.proofs.Common.{arith, append_assoc, Some, slice_get}
use Rattle.std.specs.List.{AllByRecursion, list_any}
use Rattle.std.specs.Option.{option_and_then}
use Rattle.std.proofs.lemmas.List.{map-append, length-map}
use Rattle.library_simulation.specs.file_models.driver_models.Cores.{Core, core_number}
use Rattle.written_driven_models.proofs.grammar_reader.ItemPlaces.{get_at, found_behind}
use Rattle.library_simulation.specs.file_models.sectioned_texts.DrivenModels.{SectionLanguage}
use Rattle.library_simulation.specs.file_models.FileModels.{core_named}
use Rattle.library_simulation.proofs.file_models.DistinctNames.{core_name_of}

module _ {M : Type 0} (l : SectionLanguage M) where
  abbrev pub own_names : List M → List (List ℕ)
  own_names models = map (core_name_of l) models

  -- a model is the first of these with its name
  abbrev pub IsFound : List M → M → Type 0
  IsFound models m = core_named l models (core_name_of l m) ≡ Some m

  any_named : (x : List ℕ) (models : List M)
      → list_any (λ (core : Core). l.vocabulary.is_same x core.name) (map l.core models) ≡ list_any (l.vocabulary.is_same x)
      (own_names models)
  any_named x [] = refl
  any_named x (m ∷ models) = ap (λ (b : Bool). l.vocabulary.is_same x (core_name_of l m) || b) (any_named x models)

  one_found :
      (before : List M) (m : M) (after : List M) → list_any (l.vocabulary.is_same (core_name_of l m)) (own_names before) ≡ false
      → l.vocabulary.is_same (core_name_of l m) (core_name_of l m) ≡ true → IsFound (before ++ m ∷ after) m
  one_found before m after none here =
      let test : Core → Bool = λ core. l.vocabulary.is_same (core_name_of l m) core.name in
      let place : 0 + length (map l.core before) ≡ length before = omega (arith, length-map before l.core) in
      let found : core_number l.vocabulary.is_same (map l.core (before ++ m ∷ after)) (core_name_of l m) ≡ Some (length before) =
      ap (λ (cores : List Core). core_number l.vocabulary.is_same cores (core_name_of l m)) (map-append l.core before (m ∷ after))
      ∙ found_behind test 0 (map l.core before) (l.core m) (map l.core after) (any_named (core_name_of l m) before ∙ none) here
      ∙ ap (λ (n : ℕ). Some n) place in
      ap (option_and_then (slice_get (before ++ m ∷ after))) found ∙ get_at before m after

  -- where a name that stands apart from those before it is none of them, and is itself
  module _
      (Apart : List (List ℕ) → Type 0)
      (new : (before : List (List ℕ)) (x : List ℕ) (after : List (List ℕ)) → Apart (before ++ x ∷ after)
      → list_any (l.vocabulary.is_same x) before ≡ false)
      (self : (x : List ℕ) → l.vocabulary.is_same x x ≡ true)
    where
      found_behind_others : (before models : List M) → Apart (own_names (before ++ models))
          → AllByRecursion (IsFound (before ++ models)) models
      found_behind_others before [] apart = tt
      found_behind_others before (m ∷ models) apart =
          let none = new (own_names before) (core_name_of l m) (own_names models)
          (subst Apart (map-append (core_name_of l) before (m ∷ models)) apart) in
          let same : (before ++ m ∷ []) ++ models ≡ before ++ m ∷ models = append_assoc before (m ∷ []) models in (
            one_found before m models none (self (core_name_of l m)),
            subst (λ (all : List M). AllByRecursion (IsFound all) models) same
                (found_behind_others (before ++ m ∷ []) models
                (subst (λ (all : List M). Apart (own_names all)) (sym same) apart)),
          )

      pub all_found : (models : List M) → Apart (own_names models) → AllByRecursion (IsFound models) models
      all_found models apart = found_behind_others [] models apart
