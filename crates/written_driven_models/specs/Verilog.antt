-- Verilog as it is written. (IEEE 1364-2005, A.1, source text, and 19.1, `celldefine; that a driver stands behind the module that
-- is its core is this project's layout.)
use Rattle.std.specs.Prelude.{ℕ, List}
use Rattle.written_modules.specs.specify_blocks.declared.model.VModule.{VModule}
use Rattle.written_modules.specs.verilog_grammar.VerilogText.{IsVerilogText}
use Rattle.written_modules.specs.verilog_grammar.WellFormed.{AreWellFormed}
use Rattle.written_modules.specs.verilog_writer.Model.{prelude_text, module_text}
use Rattle.driver_models.specs.declared.model.DriverModel.{DriverModel}
use Rattle.driver_models.specs.Cores.{Core}
use Rattle.verilog_drivers.specs.DriverText.{driver_section, driver_text}
use Rattle.verilog_drivers.specs.DriverSections.{verilog_section_grammar}
use Rattle.verilog_drivers.specs.WellFormed.{IsWellFormedDriver}
use Rattle.verilog_drivers.specs.VerilogSections.{verilog_sections}
use Rattle.written_driven_models.specs.WrittenDrivers.{WrittenSections}
use Rattle.written_driven_models.specs.Texts.{WrittenLanguage}
use Rattle.written_driven_models.specs.Laws.{WellFormedness}

-- a driver that a section can declare, where some names are taken and some models may be its core
abbrev pub CanBeDeclared : DriverModel → Type 0
CanBeDeclared driver = (names : List (List ℕ)) × ((cores : List Core) × IsWellFormedDriver names cores driver)

-- drivers as they are written
abbrev pub verilog_drivers : WrittenSections
verilog_drivers = record { grammar = verilog_section_grammar; driver_section = driver_section; driver_text = driver_text }

abbrev pub written_verilog : WrittenLanguage VModule
written_verilog = record {
  language = verilog_sections;
  front = prelude_text;
  model_text = module_text;
  drivers = verilog_drivers;
  IsText = IsVerilogText;
}

abbrev pub well_formed_verilog : WellFormedness VModule
well_formed_verilog =
    record { AreWellFormed = AreWellFormed; CanBeDeclared = CanBeDeclared; IsWellFormedDriver = IsWellFormedDriver }
