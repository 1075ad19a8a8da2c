-- Models that are found by what their names are folded to.
use Rattle.std.proofs.Common.{◌≡◌, ℕ, ◌+◌, cond, List, [], ◌∷◌, map, slice_get, Option, Some, refl, sym, ap, ◌∙◌}
use Rattle.std.specs.Str.{bytes_eq}
use Rattle.std.specs.Option.{option_and_then}
use Rattle.std.specs.List.{position_from}
use Rattle.std.proofs.lemmas.Iterator.Adapters.{position_from-zero}
use Rattle.bool_functions.specs.NameList.{number_of}
use Rattle.driver_models.specs.Cores.{Core}
use Rattle.sectioned_texts.specs.DrivenModels.{SectionLanguage}
use Rattle.file_models.specs.FileModels.{core_named}
use Rattle.file_models.specs.Folded.{folded_names}

module _ {M : Type 0} (l : SectionLanguage M) (fold : List ℕ → List ℕ) (x : List ℕ) (same : (y : List ℕ)
    → l.vocabulary.is_same x y ≡ bytes_eq (fold x) (fold y)) where
  first_same : (k : ℕ) (cores : List M)
      → position_from (bytes_eq (fold x)) k (folded_names fold l cores) ≡ position_from
      (λ (core : Core). l.vocabulary.is_same x core.name) k (map l.core cores)
  first_same k [] = refl
  first_same k (m ∷ cores) = λ i. cond (sym (same (l.core m).name) i) (Some k) (first_same (k + 1) cores i)

  -- the model of the number that is found is the one of the name
  pub core_found : (cores : List M) (names : List (List ℕ)) (folded : List ℕ) (number : Option ℕ)
      → names ≡ folded_names fold l cores → folded ≡ fold x
      → number ≡ number_of names folded → option_and_then (slice_get cores) number ≡ core_named l cores x
  core_found cores names folded number all is found =
      ap (option_and_then (slice_get cores))
      (found ∙ (λ i. number_of (all i) (is i)) ∙ position_from-zero (bytes_eq (fold x)) (folded_names fold l cores)
      ∙ first_same 0 cores)
