-- VHDL as it is written. (IEEE 1076-1993, 11.1, design files, and 10.4, use clauses; that a driver stands behind the entity that
-- is its core is this project's layout.)
use Rattle.std.specs.Prelude.{[]}
use Rattle.generated_drivers.specs.vital_models.declared.model.VEntity.{VEntity}
use Rattle.written_entities.specs.vhdl_grammar.VhdlText.{IsVhdlText}
use Rattle.written_entities.specs.vhdl_grammar.WellFormed.{AreWellFormed}
use Rattle.written_entities.specs.vhdl_writer.Entity.{entity_text}
use Rattle.vhdl_drivers.specs.DriverSection.{driver_section}
use Rattle.vhdl_drivers.specs.DriverText.{driver_text}
use Rattle.vhdl_drivers.specs.DriverSections.{vhdl_section_grammar}
use Rattle.vhdl_drivers.specs.WellFormed.{IsWrittenDriver, IsWellFormedDriver}
use Rattle.vhdl_drivers.specs.VitalSections.{vital_sections}
use Rattle.written_driven_models.specs.WrittenDrivers.{WrittenSections}
use Rattle.written_driven_models.specs.Texts.{WrittenLanguage}
use Rattle.written_driven_models.specs.Laws.{WellFormedness}

-- drivers as they are written
abbrev pub vital_drivers : WrittenSections
vital_drivers = record { grammar = vhdl_section_grammar; driver_section = driver_section; driver_text = driver_text }

abbrev pub written_vital : WrittenLanguage VEntity
written_vital =
    record { language = vital_sections; front = []; model_text = entity_text; drivers = vital_drivers; IsText = IsVhdlText }

abbrev pub well_formed_vital : WellFormedness VEntity
well_formed_vital =
    record { AreWellFormed = AreWellFormed; CanBeDeclared = IsWrittenDriver; IsWellFormedDriver = IsWellFormedDriver }
