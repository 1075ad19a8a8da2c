-- The models of a file in whose sections drivers stand, each as it is run. (That a driver is a model like any other is this
-- project's rule.)
use Rattle.std.specs.Prelude.{ℕ, List, [], ◌∷◌, ◌++◌, map, flat_map, slice_get, Option, Some, None}
use Rattle.std.specs.Option.{option_and_then}
use Rattle.cell_machine.specs.Lines.{Machine}
use Rattle.stimulus.specs.DriveLines.{DriveMachine}
use Rattle.driven_traces.specs.Drivers as drivers
use Rattle.driven_traces.specs.DrivenLines.{driven_machine}
use Rattle.driver_models.specs.declared.model.DriverModel.{DriverModel}
use Rattle.driver_models.specs.Models.{input_count, output_count}
use Rattle.driver_models.specs.Cores.{Core, core_number}
use Rattle.sectioned_texts.specs.declared.driven_models.DrivenModels.{DrivenModels}
use Rattle.sectioned_texts.specs.DrivenModels.{SectionLanguage}
use Rattle.file_models.specs.declared.file_model.FileModel.{FileModel}

-- what runs of a model of a file, by what runs of its core
abbrev pub machine_by : {M : Type 0} → (M → Machine) → FileModel M → DriveMachine
machine_by machine f = driven_machine f.driver (machine f.core)

-- A model of a file can be run, by what is asked of its core: the outputs that are driven are its core's.
pub record IsRunnable {M : Type 0} (is_sound : M → Type 0) (machine : M → Machine) (f : FileModel M) : Type 0 where
  pub core : is_sound f.core
  pub driver : drivers.IsSound f.driver
  pub is_core : drivers.IsCoreOf f.driver (machine f.core)

-- a model of its own, by its name and its ports: nothing drives its outputs
abbrev pub plain_model : {M : Type 0} → (M → Core) → M → FileModel M
plain_model as_core m = record {
  name = (as_core m).name;
  ports = (as_core m).ports;
  core = m;
  driver = drivers.plain (input_count (as_core m).ports) (output_count (as_core m).ports);
}

-- a driver over its core
abbrev pub driver_over : {M : Type 0} → M → DriverModel → FileModel M
driver_over m d = record { name = d.name; ports = d.ports; core = m; driver = d.driver }

-- the same where the core is there
abbrev pub over_core : {M : Type 0} → DriverModel → Option M → List (FileModel M)
over_core d None = []
over_core d (Some m) = driver_over m d ∷ []

module _ {M : Type 0} (l : SectionLanguage M) where
  -- a model of its own
  abbrev pub own_model : M → FileModel M
  own_model m = plain_model l.core m

  -- the model with this name, of these the first
  abbrev pub core_named : List M → List ℕ → Option M
  core_named models x = option_and_then (slice_get models) (core_number l.vocabulary.is_same (map l.core models) x)

  -- a driver of a text with these models, over its core
  abbrev pub over_its_core : List M → DriverModel → List (FileModel M)
  over_its_core models d = over_core d (core_named models d.core)

  -- the models of a text, and behind them its drivers over their cores
  abbrev pub file_models : DrivenModels M → List (FileModel M)
  file_models found = map own_model found.models ++ flat_map (over_its_core found.models) found.drivers
