-- The models of a file can be run, where its own models are sound and its drivers may stand.
use Rattle.std.proofs.Common.{◌≡◌, ℕ, ◌+◌, ◌<◌, List, [], ◌∷◌, length, map, Option, Some, None, refl, sym, ap, subst, ◌∙◌}
use Rattle.std.proofs.Common.{add-zero, slice_get}
use Rattle.std.specs.Prelude.{All, flat_map}
use Rattle.std.specs.Option.{option_and_then}
use Rattle.std.proofs.lemmas.List.Elements.{All-nil, All-cons, All-head, All-tail, All-append, All-map, All-weaker}
use Rattle.std.proofs.lemmas.Option.{slice_get_within, get_or_from_slice_get}
use Rattle.cell_machine.specs.Lines.{Machine}
use Rattle.driven_traces.specs.Drivers as drivers
use Rattle.driver_models.specs.declared.model.DriverModel.{DriverModel}
use Rattle.driver_models.specs.Models.{input_count, output_count, IsSound}
use Rattle.driver_models.specs.Cores.{core_number}
use Rattle.sectioned_texts.specs.declared.driven_models.DrivenModels.{DrivenModels}
use Rattle.sectioned_texts.specs.DrivenModels.{SectionLanguage}
use Rattle.sectioned_texts.specs.Drivers.{AllMayStand}
use Rattle.file_models.specs.FileModels.{IsRunnable, driver_over, over_core, own_model, over_its_core, file_models}
use Rattle.file_models.proofs.DriverCores.{AreCounted, HasCore, has_core}

-- a driver is sound, and has its core among these models
pub record StandsOver {M : Type 0} (l : SectionLanguage M) (models : List M) (driver : DriverModel) : Type 0 where
  pub sound : IsSound driver
  pub model : M
  pub core : HasCore l models driver model

pub all_stand_over : {M : Type 0} (l : SectionLanguage M) (models : List M) (ds : List DriverModel) → AllMayStand l models ds
    → All (StandsOver l models) ds
all_stand_over l models ds h = λ k other below.
    let stands = h k other below in
    let core = has_core l models _ stands.core in
    record { sound = stands.sound; model = core.0; core = core.1 }

-- what holds of all parts that are made of values holds of the parts of the whole
pub all_parts : {A B : Type 0} (P : A → Type 0) (Q : B → Type 0) (f : A → List B) → ((a : A) → P a → All Q (f a)) → (xs : List A)
    → All P xs → All Q (flat_map f xs)
all_parts P Q f each [] h = All-nil Q
all_parts P Q f each (x ∷ xs) h =
    All-append Q (f x) (flat_map f xs) (each x (All-head P x xs h)) (all_parts P Q f each xs (All-tail P x xs h))

plain_sound : (inputs outputs : ℕ) → drivers.IsSound (drivers.plain inputs outputs)
plain_sound inputs outputs = record {
  ascending = refl;
  outputs = All-nil (λ place. place < outputs);
  paths =
      All-nil (drivers.IsPathOf (drivers.plain inputs outputs));
}

-- as many inputs and outputs run as a model has
pub record RunsByPorts {M : Type 0} (l : SectionLanguage M) (machine : M → Machine) (m : M) : Type 0 where
  pub inputs : (machine m).inputs ≡ input_count (l.core m).ports
  pub outputs : (machine m).outputs ≡ output_count (l.core m).ports

module _ {M : Type 0} (l : SectionLanguage M) (is_sound : M → Type 0) (machine : M → Machine) (counts : (m : M) → is_sound m
    → RunsByPorts l machine m) where
  own_runs : (m : M) → is_sound m → IsRunnable is_sound machine (own_model l m)
  own_runs m h =
      let runs = counts m h in
      record {
        core = h;
        driver = plain_sound (input_count (l.core m).ports) (output_count (l.core m).ports);
        is_core = record { inputs = runs.inputs; outputs = runs.outputs ∙ sym (add-zero (output_count (l.core m).ports)) };
      }

  driver_runs : (driver : DriverModel) (m : M) → is_sound m → IsSound driver
      → AreCounted driver.ports (length driver.driver.drives) (l.core m).ports
      → IsRunnable is_sound machine (driver_over m driver)
  driver_runs driver m h sound counted =
      let runs = counts m h in
      record {
        core = h;
        driver = sound.driver;
        is_core = record {
          inputs = runs.inputs ∙ counted.inputs ∙ sym sound.inputs;
          outputs = runs.outputs ∙ counted.outputs ∙ ap (λ (n : ℕ). n + length driver.driver.drives) (sym sound.outputs);
        };
      }

  named_is_sound : (models : List M) → All is_sound models → (number : Option ℕ) (m : M)
      → option_and_then (slice_get models) number ≡ Some m → is_sound m
  named_is_sound models h None m e = absurd cc
  named_is_sound models h (Some n) m e =
      subst is_sound (get_or_from_slice_get models n m m e) (h n m (slice_get_within models n m e))

  over_runs : (models : List M) → All is_sound models → (driver : DriverModel) → StandsOver l models driver
      → All (IsRunnable is_sound machine) (over_its_core l models driver)
  over_runs models h driver stands =
      let m = stands.model in
      let own = named_is_sound models h (core_number l.vocabulary.is_same (map l.core models) driver.core) m stands.core.found in
      subst (λ (o : Option M). All (IsRunnable is_sound machine) (over_core driver o)) (sym stands.core.found)
      (All-cons (IsRunnable is_sound machine) (driver_over m driver) []
      (driver_runs driver m own stands.sound stands.core.counted) (All-nil (IsRunnable is_sound machine)))

  -- each model of a file can be run
  pub all_run : (found : DrivenModels M) → All is_sound found.models → AllMayStand l found.models found.drivers
      → All (IsRunnable is_sound machine) (file_models l found)
  all_run found h stand =
      All-append (IsRunnable is_sound machine) (map (own_model l) found.models)
      (flat_map (over_its_core l found.models) found.drivers)
      (All-map (IsRunnable is_sound machine) (own_model l) found.models
      (All-weaker is_sound (λ m. IsRunnable is_sound machine (own_model l m)) own_runs found.models h))
      (all_parts (StandsOver l found.models) (IsRunnable is_sound machine) (over_its_core l found.models)
      (over_runs found.models h) found.drivers
      (all_stand_over l found.models found.drivers stand))
