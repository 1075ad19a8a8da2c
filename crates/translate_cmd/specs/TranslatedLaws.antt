-- Laws of what `translate` writes.
use Rattle.std.specs.Prelude.{◌≡◌, ℕ, List, [], Ok}
use Rattle.library_simulation.specs.file_models.sectioned_texts.DrivenModels.{driven_models}
use Rattle.written_driven_models.specs.verilog_grammar.WellFormed as modules
use Rattle.written_driven_models.specs.vhdl_grammar.WellFormed as entities
use Rattle.written_driven_models.specs.verilog_drivers.VerilogSections.{verilog_sections}
use Rattle.written_driven_models.specs.vhdl_drivers.VitalSections.{vital_sections}
use Rattle.written_driven_models.specs.Texts.{written_text}
use Rattle.written_driven_models.specs.Laws.{AreWellFormedDrivers, HoldsApart}
use Rattle.written_driven_models.specs.Verilog.{written_verilog, well_formed_verilog}
use Rattle.written_driven_models.specs.Vital.{written_vital, well_formed_vital}
use Rattle.library_translation.specs.Library.{translate_outcome}
use Rattle.translate_cmd.specs.TranslatedModels.{modules_in, entities_in, verilog_in, vital_in}

-- The modules of the cores of the accepted cells of a library are well formed together, and each driver over them can be declared
-- behind those before it.
pub record HasWellFormedModules (bytes : List ℕ) : Type 0 where
  pub models : modules.AreWellFormed (verilog_in bytes).models
  pub drivers : AreWellFormedDrivers written_verilog well_formed_verilog (verilog_in bytes).models [] (verilog_in bytes).drivers

-- so it is for every library
abbrev pub ModulesAreWellFormed : Type 0
ModulesAreWellFormed = (bytes : List ℕ) → HasWellFormedModules bytes

-- So are the entities, and so can the drivers over them.
pub record HasWellFormedEntities (bytes : List ℕ) : Type 0 where
  pub models : entities.AreWellFormed (vital_in bytes).models
  pub drivers : AreWellFormedDrivers written_vital well_formed_vital (vital_in bytes).models [] (vital_in bytes).drivers

abbrev pub EntitiesAreWellFormed : Type 0
EntitiesAreWellFormed = (bytes : List ℕ) → HasWellFormedEntities bytes

-- the Verilog of a library is the first line and the texts of these modules, each with that of the drivers over it
abbrev pub VerilogIsOfModules : Type 0
VerilogIsOfModules = (bytes : List ℕ) → (translate_outcome bytes).text.verilog ≡ written_text written_verilog (modules_in bytes)

-- the VHDL of a library is the texts of these entities so
abbrev pub VitalIsOfEntities : Type 0
VitalIsOfEntities = (bytes : List ℕ) → (translate_outcome bytes).text.vital ≡ written_text written_vital (entities_in bytes)

-- The Verilog of a library reads as the modules and the drivers of its accepted cells. Its sections are the texts of these
-- drivers, and around them it is the text of these modules, and of no others.
pub record VerilogReadsBack (bytes : List ℕ) : Type 0 where
  pub answer : driven_models verilog_sections (translate_outcome bytes).text.verilog ≡ Ok (verilog_in bytes)
  pub apart : HoldsApart written_verilog (translate_outcome bytes).text.verilog (verilog_in bytes).models
      (verilog_in bytes).drivers

-- the VHDL of a library reads so as the entities and the drivers
pub record VitalReadsBack (bytes : List ℕ) : Type 0 where
  pub answer : driven_models vital_sections (translate_outcome bytes).text.vital ≡ Ok (vital_in bytes)
  pub apart : HoldsApart written_vital (translate_outcome bytes).text.vital (vital_in bytes).models (vital_in bytes).drivers

-- both texts of every library read so
pub record ReadsBack (bytes : List ℕ) : Type 0 where
  pub verilog : VerilogReadsBack bytes
  pub vital : VitalReadsBack bytes

abbrev pub LibrariesReadBack : Type 0
LibrariesReadBack = (bytes : List ℕ) → ReadsBack bytes
