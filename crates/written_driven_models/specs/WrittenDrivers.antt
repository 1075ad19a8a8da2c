-- What is written of a driver reads back, in any language of drivers.
use Rattle.std.specs.Prelude.{ℕ, List}
use Rattle.driver_models.specs.declared.model.DriverModel.{DriverModel}
use Rattle.driver_models.specs.Cores.{Core}
use Rattle.driver_texts.specs.Sections.{SectionGrammar, section_language, section_text}
use Rattle.written_modules.specs.grammar_reader.Texts.{IsText}
use Rattle.written_modules.specs.grammar_reader.ReadBack.{ReadsBack}

-- Drivers as they are written in sections: the grammar of the sections, and what is written of a driver, without its last line
-- end and with it.
pub record WrittenSections : Type 1 where
  pub grammar : SectionGrammar
  pub driver_section : DriverModel → List ℕ
  pub driver_text : DriverModel → List ℕ

-- Where these names are taken and the models that may be cores are these, the bytes are a section of this driver, and of no
-- other.
abbrev pub IsSectionOf : WrittenSections → List (List ℕ) → List Core → List ℕ → DriverModel → Type 0
IsSectionOf w names cores bytes d =
    ReadsBack (section_text w.grammar names cores) (IsText (section_language w.grammar names cores)) bytes d

-- a driver's text, with its last line end and without it
pub record DriverReadsBack (w : WrittenSections) (names : List (List ℕ)) (cores : List Core) (d : DriverModel) : Type 0 where
  pub section : IsSectionOf w names cores (w.driver_section d) d
  pub text : IsSectionOf w names cores (w.driver_text d) d
