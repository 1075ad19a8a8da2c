-- VHDL by VITAL as a language of models; what runs of an entity is as in IEEE 1076.4-2000.
use Rattle.std.specs.Prelude.{ℕ, List, Result}
use Rattle.udp_tables.specs.declared.models.ModelFault.{ModelFault}
use Rattle.vital_models.specs.declared.model.VEntity.{VEntity}
use Rattle.vital_models.specs.Sound.{IsSound}
use Rattle.model_traces.specs.EntityTrace.{entity_machine}
use Rattle.vhdl_drivers.specs.VitalSections.{vital_sections}
use Rattle.file_models.specs.declared.file_model.FileModel.{FileModel}
use Rattle.model_files.specs.declared.format.ModelFormat.TheVariants as format
use Rattle.model_files.specs.Languages.{Language}
use Rattle.model_replay.specs.FileLanguages.{text_models, file_language}

-- the models of a text, its drivers among them, or its fault
abbrev pub vital_models : List ℕ → Result (List (FileModel VEntity)) ModelFault
vital_models = text_models vital_sections

abbrev pub vital : Language (FileModel VEntity)
vital = file_language format.Vital vital_sections entity_machine IsSound
