-- Laws of the languages.
use Rattle.std.specs.Prelude.{◌≡◌, ℕ, All, List, [], map, length, Ok}
use Rattle.std.specs.Result.{result_map_both}
use Rattle.file_models.specs.driver_sections.Sections.{sections}
use Rattle.verilog_grammar.specs.specify_blocks.declared.model.VModule.{VModule}
use Rattle.verilog_grammar.specs.VerilogText.{verilog_text}
use Rattle.vital_models.specs.declared.model.VEntity.{VEntity}
use Rattle.vhdl_grammar.specs.VhdlText.{vhdl_text}
use Rattle.vhdl_grammar.specs.WellFormed.{AreApart, IsCount, AreWellFormed}
use Rattle.file_models.specs.sectioned_texts.declared.driven_models.DrivenModels.{DrivenModels}
use Rattle.file_models.specs.sectioned_texts.DrivenModels.{driven_models}
use Rattle.verilog_drivers.specs.VerilogSections.{verilog_sections}
use Rattle.vhdl_drivers.specs.VitalSections.{vital_sections}
use Rattle.file_models.specs.declared.file_model.FileModel.{FileModel}
use Rattle.file_models.specs.FileModels.{own_model, file_models}
use Rattle.model_files.specs.Languages.{Language}
use Rattle.model_files.specs.ModelNames.{model_names, HaveOwnNames}
use Rattle.model_replay.specs.Verilog.{verilog, verilog_models}
use Rattle.model_replay.specs.Vital.{vital, vital_models}

-- models that a text of a language can have are a catalog's, and can be run
pub record AreOfText {M : Type 0} (l : Language M) (models : List M) : Type 0 where
  pub own : HaveOwnNames l models
  pub well_formed : All l.is_well_formed models

-- so are the models of each Verilog text, its drivers among them
abbrev pub ModulesHaveOwnNames : Type 0
ModulesHaveOwnNames = (bytes : List ℕ) (models : List (FileModel VModule)) → verilog_models bytes ≡ Ok models
    → AreOfText verilog models

-- models of a VHDL text are such, and no two of them have one name, whatever the case of its letters
pub record AreEntities (models : List (FileModel VEntity)) : Type 0 where
  pub of_text : AreOfText vital models
  pub apart : AreApart (model_names vital models)

-- so are the models of each VHDL text that memory can hold
abbrev pub EntitiesHaveOwnNames : Type 0
EntitiesHaveOwnNames =
    (bytes : List ℕ) (models : List (FileModel VEntity)) → IsCount (length bytes) → vital_models bytes ≡ Ok models
    → AreEntities models

-- and of each VHDL text whose models of their own are well formed
abbrev pub WellFormedEntitiesHaveOwnNames : Type 0
WellFormedEntitiesHaveOwnNames =
    (bytes : List ℕ) (found : DrivenModels VEntity) → driven_models vital_sections bytes ≡ Ok found → AreWellFormed found.models
    → AreEntities (file_models vital_sections found)

-- A Verilog text without sections has the modules, or the fault, that it has where sections are not known.
abbrev pub PlainModulesReadAsBefore : Type 0
PlainModulesReadAsBefore =
    (bytes : List ℕ) → sections verilog_sections.vocabulary verilog_sections.marks bytes ≡ []
    → verilog_models bytes ≡ result_map_both (map (own_model verilog_sections)) (λ fault. fault) (verilog_text bytes)

-- So has a VHDL text.
abbrev pub PlainEntitiesReadAsBefore : Type 0
PlainEntitiesReadAsBefore =
    (bytes : List ℕ) → sections vital_sections.vocabulary vital_sections.marks bytes ≡ []
    → vital_models bytes ≡ result_map_both (map (own_model vital_sections)) (λ fault. fault) (vhdl_text bytes)
