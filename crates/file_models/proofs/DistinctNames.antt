-- The names of the models of a file: no two are the same.
use Rattle.std.proofs.Common.{◌≡◌, ℕ, zero, suc, ◌+◌, ◌<◌, ◌≤◌, Bool, false, ◌||◌, List, [], ◌∷◌, ◌++◌, length, map, take}
use Rattle.std.proofs.Common.{get_or, Option, refl, sym, ap, subst, ◌∙◌, arith, append_assoc}
use Rattle.std.specs.Prelude.{All, flat_map}
use Rattle.std.specs.Cmp.{IsEquivalence}
use Rattle.std.specs.List.{IsDistinct, list_any}
use Rattle.std.proofs.lemmas.Bool.{or_from, or_parts as neither}
use Rattle.std.proofs.lemmas.List.{map-append, take_all, take_more, append-nil}
use Rattle.std.proofs.lemmas.List.Elements.{All-head, All-tail}
use Rattle.std.proofs.lemmas.List.Folds.{list_any-append}
use Rattle.std.proofs.lemmas.Map.Keys.{IsDistinct-push}
use Rattle.driver_models.specs.declared.model.DriverModel.{DriverModel}
use Rattle.sectioned_texts.specs.declared.driven_models.DrivenModels.{DrivenModels}
use Rattle.sectioned_texts.specs.DrivenModels.{SectionLanguage, taken_names}
use Rattle.sectioned_texts.specs.Drivers.{AllMayStand}
use Rattle.file_models.specs.declared.file_model.FileModel.{FileModel}
use Rattle.file_models.specs.FileModels.{over_core, own_model, over_its_core, file_models}
use Rattle.file_models.proofs.RunnableModels.{StandsOver, all_stand_over}

abbrev pub driver_name : DriverModel → List ℕ
driver_name d = d.name

abbrev pub file_name : {M : Type 0} → FileModel M → List ℕ
file_name f = f.name

abbrev pub core_name_of : {M : Type 0} → SectionLanguage M → M → List ℕ
core_name_of l m = (l.core m).name

-- the names of models, and behind them those of drivers
abbrev pub both_names : {M : Type 0} → SectionLanguage M → List M → List DriverModel → List (List ℕ)
both_names l models ds = map (core_name_of l) models ++ map driver_name ds

module _ {M : Type 0} (l : SectionLanguage M) where
  own_named : (models : List M) → map file_name (map (own_model l) models) ≡ map (core_name_of l) models
  own_named [] = refl
  own_named (m ∷ models) = ap (λ (names : List (List ℕ)). (l.core m).name ∷ names) (own_named models)

  over_named : (models : List M) (d : DriverModel) → StandsOver l models d
      → map file_name (over_its_core l models d) ≡ d.name ∷ []
  over_named models d h = ap (λ (o : Option M). map file_name (over_core d o)) h.core.found

  drivers_named : (models : List M) (ds : List DriverModel) → All (StandsOver l models) ds
      → map file_name (flat_map (over_its_core l models) ds) ≡ map driver_name ds
  drivers_named models [] h = refl
  drivers_named models (d ∷ ds) h =
      map-append file_name (over_its_core l models d) (flat_map (over_its_core l models) ds)
      ∙ (λ i. over_named models d (All-head (StandsOver l models) d ds h) i
      ++ drivers_named models ds (All-tail (StandsOver l models) d ds h) i)

  -- the names of the models of a file
  pub names_are : (found : DrivenModels M) → AllMayStand l found.models found.drivers
      → map file_name (file_models l found) ≡ both_names l found.models found.drivers
  names_are found h =
      map-append file_name (map (own_model l) found.models) (flat_map (over_its_core l found.models) found.drivers)
      ∙ (λ i. own_named found.models i ++ drivers_named found.models found.drivers (all_stand_over l found.models found.drivers h)
      i)

-- The names are apart.

-- a name that is none of those that a model takes is not the model's own
abbrev pub TakesOwnName : {M : Type 0} → SectionLanguage M → Type 0
TakesOwnName {M} l = (p : List ℕ → Bool) (m : M) → list_any p (l.names m) ≡ false → p (l.core m).name ≡ false

module _ {M : Type 0} (l : SectionLanguage M) (takes : TakesOwnName l) (p : List ℕ → Bool) where
  none_own : (models : List M) → list_any p (flat_map l.names models) ≡ false → list_any p (map (core_name_of l) models) ≡ false
  none_own [] e = refl
  none_own (m ∷ models) e =
      let parts = neither (list_any p (l.names m)) (list_any p (flat_map l.names models))
      (sym (list_any-append p (l.names m) (flat_map l.names models)) ∙ e) in
      or_from (p (l.core m).name) (list_any p (map (core_name_of l) models)) (takes p m parts.0) (none_own models parts.1)

  none_both : (models : List M) (ds : List DriverModel) → list_any p (taken_names l models ds) ≡ false
      → list_any p (both_names l models ds) ≡ false
  none_both models ds e =
      let parts = neither (list_any p (flat_map l.names models)) (list_any p (map driver_name ds))
      (sym (list_any-append p (flat_map l.names models) (map driver_name ds)) ∙ e) in
      list_any-append p (map (core_name_of l) models) (map driver_name ds)
      ∙ or_from (list_any p (map (core_name_of l) models)) (list_any p (map driver_name ds)) (none_own models parts.0) parts.1

-- this is what names of drivers are compared by, the driver's name first
abbrev pub ComparesNames : (List ℕ → List ℕ → Bool) → (List ℕ → List ℕ → Bool) → DriverModel → Type 0
ComparesNames is_same eq d = (x : List ℕ) → is_same d.name x ≡ eq d.name x

any_by : (is_same eq : List ℕ → List ℕ → Bool) (d : DriverModel) → ComparesNames is_same eq d → (names : List (List ℕ))
    → list_any (is_same d.name) names ≡ list_any (eq d.name) names
any_by is_same eq d h [] = refl
any_by is_same eq d h (x ∷ names) = λ i. h x i || any_by is_same eq d h names i

module _ {M : Type 0} (l : SectionLanguage M) (takes : TakesOwnName l) (eq : List ℕ → List ℕ
    → Bool) (equivalence : IsEquivalence eq) (models : List M) (ds : List DriverModel) (stand : AllMayStand l models ds)
    (compare : All (ComparesNames l.vocabulary.is_same eq) ds) (own : IsDistinct eq (map (core_name_of l) models)) where
  next_apart : (n : ℕ) (d : DriverModel) → n < length ds → IsDistinct eq (both_names l models (take n ds))
      → IsDistinct eq (both_names l models (take (n + 1) ds))
  next_apart n d below h =
      let next = get_or ds n d in
      let new : list_any (eq next.name) (both_names l models (take n ds)) ≡ false =
      none_both l takes (eq next.name) models (take n ds)
      (sym (any_by l.vocabulary.is_same eq next (compare n d below) (taken_names l models (take n ds))) ∙ (stand n d below).new)
      in
      let joined : both_names l models (take n ds) ++ next.name ∷ [] ≡ both_names l models (take (n + 1) ds) =
      append_assoc (map (core_name_of l) models) (map driver_name (take n ds)) (next.name ∷ [])
      ∙ ap (λ (names : List (List ℕ)). map (core_name_of l) models ++ names)
      (sym (ap (map driver_name) (take_more ds n d below) ∙ map-append driver_name (take n ds) (next ∷ []))) in
      subst (IsDistinct eq) joined (IsDistinct-push equivalence (both_names l models (take n ds)) next.name h new)

  first_apart : (d : DriverModel) (n : ℕ) → n ≤ length ds → IsDistinct eq (both_names l models (take n ds))
  first_apart d zero h = subst (IsDistinct eq) (sym (append-nil (map (core_name_of l) models))) own
  first_apart d (suc n) h =
      let below : n < length ds = omega (arith, h) in
      let more : n + 1 ≡ suc n = omega arith in
      subst (λ (k : ℕ). IsDistinct eq (both_names l models (take k ds))) more
      (next_apart n d below (first_apart d n (omega (arith, h))))

  both_apart : (all : List DriverModel) → all ≡ ds → IsDistinct eq (both_names l models ds)
  both_apart [] e = subst (λ (x : List DriverModel). IsDistinct eq (both_names l models x)) e
      (subst (IsDistinct eq) (sym (append-nil (map (core_name_of l) models))) own)
  both_apart (d ∷ others) e =
      subst (λ (x : List DriverModel). IsDistinct eq (both_names l models x)) (take_all (length ds) ds (omega arith))
      (first_apart d (length ds) (omega arith))

-- no two models of a file have one name
pub names_apart : {M : Type 0} (l : SectionLanguage M) → TakesOwnName l → (eq : List ℕ → List ℕ → Bool) → IsEquivalence eq
    → (found : DrivenModels M) → AllMayStand l found.models found.drivers
    → All (ComparesNames l.vocabulary.is_same eq) found.drivers → IsDistinct eq (map (core_name_of l) found.models)
    → IsDistinct eq (map file_name (file_models l found))
names_apart l takes eq equivalence found stand compare own =
    subst (IsDistinct eq) (sym (names_are l found stand))
    (both_apart l takes eq equivalence found.models found.drivers stand compare own found.drivers refl)
