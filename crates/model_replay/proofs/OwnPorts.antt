-- The ports of the models of a file are a catalog's.
use Rattle.std.proofs.Common.{◌≡◌, List, [], Option, sym, subst, ◌∙◌, length}
use Rattle.std.specs.Prelude.{All, map, flat_map}
use Rattle.std.proofs.lemmas.List.Elements.{All-nil, All-cons, All-append, All-map, All-weaker}
use Rattle.udp_tables.specs.declared.models.VPort.{VPort}
use Rattle.verilog_grammar.specs.WellFormed.{AreApart}
use Rattle.file_models.specs.driver_models.declared.model.DriverModel.{DriverModel}
use Rattle.file_models.specs.sectioned_texts.declared.driven_models.DrivenModels.{DrivenModels}
use Rattle.file_models.specs.sectioned_texts.DrivenModels.{SectionLanguage}
use Rattle.file_models.specs.sectioned_texts.Drivers.{AllMayStand}
use Rattle.file_models.specs.declared.file_model.FileModel.{FileModel}
use Rattle.file_models.specs.FileModels.{driver_over, over_core, own_model, over_its_core, file_models}
use Rattle.file_models.proofs.RunnableModels.{StandsOver, all_stand_over, all_parts}
use Rattle.model_files.specs.ModelNames.{input_names, output_names, HasOwnNames}
use Rattle.model_replay.proofs.NewNames.{own_ports}
use Rattle.model_replay.proofs.PortCounts.{length-input_names, length-output_names}

-- no two ports have one name
abbrev pub ArePortsApart : List VPort → Type 0
ArePortsApart ports = AreApart (map (λ (port : VPort). port.name) ports)

-- a model has ports of different names, as many inputs and outputs as it runs with
pub record HasPorts {M : Type 0} (f : FileModel M) : Type 0 where
  pub names : HasOwnNames f.ports
  pub inputs : length (input_names f.ports) ≡ f.driver.inputs
  pub outputs : length (output_names f.ports) ≡ f.driver.outputs

-- a driver stands over its core, and its ports have different names
pub record StandsWithPorts {M : Type 0} (l : SectionLanguage M) (models : List M) (driver : DriverModel) : Type 0 where
  pub stands : StandsOver l models driver
  pub ports : ArePortsApart driver.ports

module _ {M : Type 0} (l : SectionLanguage M) where
  own_has : (m : M) → ArePortsApart (l.core m).ports → HasPorts (own_model l m)
  own_has m h = record {
    names = own_ports (l.core m).ports h;
    inputs = length-input_names (l.core m).ports;
    outputs =
        length-output_names (l.core m).ports;
  }

  over_has : (models : List M) (driver : DriverModel) → StandsWithPorts l models driver
      → All HasPorts (over_its_core l models driver)
  over_has models driver h =
      subst (λ (o : Option M). All HasPorts (over_core driver o)) (sym h.stands.core.found)
      (All-cons HasPorts (driver_over h.stands.model driver) []
      (record {
        names = own_ports driver.ports h.ports;
        inputs = length-input_names driver.ports ∙ sym h.stands.sound.inputs;
        outputs = length-output_names driver.ports ∙ sym h.stands.sound.outputs;
      }) (All-nil HasPorts))

  pub all_have : (found : DrivenModels M) → All (λ m. ArePortsApart (l.core m).ports) found.models
      → AllMayStand l found.models found.drivers
      → All (λ (d : DriverModel). ArePortsApart d.ports) found.drivers → All HasPorts (file_models l found)
  all_have found h stand ports =
      let over = all_stand_over l found.models found.drivers stand in
      All-append HasPorts (map (own_model l) found.models) (flat_map (over_its_core l found.models) found.drivers)
      (All-map HasPorts (own_model l) found.models
      (All-weaker (λ m. ArePortsApart (l.core m).ports) (λ m. HasPorts (own_model l m)) own_has found.models h))
      (all_parts (StandsWithPorts l found.models) HasPorts (over_its_core l found.models) (over_has found.models) found.drivers
      (λ k d below. record { stands = over k d below; ports = ports k d below }))
