-- VHDL by VITAL as a language of models and of sections that hold drivers. (IEEE 1076-1993, 1.1, 1.2 and 10.4; IEEE 1076.4-2000;
-- that such a section holds a driver is this project's rule.)
use Rattle.std.specs.Prelude.{[], ◌∷◌, codes}
use Rattle.vhdl_tokens.specs.Tokens.{lexis}
use Rattle.vhdl_tokens.specs.Spelling.{is_same}
use Rattle.vhdl_grammar.specs.vital_tables.declared.model.VEntity.{VEntity}
use Rattle.vhdl_grammar.specs.VhdlText.{vhdl_text}
use Rattle.section_outlines.specs.VhdlMarks.{vhdl_marks}
use Rattle.driver_texts.specs.Sections.{section_text}
use Rattle.vhdl_drivers.specs.DriverSections.{vhdl_section_grammar}
use Rattle.sectioned_texts.specs.DrivenModels.{SectionLanguage}

abbrev pub vital_sections : SectionLanguage VEntity
vital_sections = record {
  vocabulary = record { lexis = lexis; is_same = is_same };
  marks = vhdl_marks;
  model_end = record { words = codes "end" ∷ codes "vital" ∷ []; closing = codes ";" };
  text = vhdl_text;
  names = λ (e : VEntity). e.name ∷ [];
  core = λ (e : VEntity). record { name = e.name; ports = e.ports };
  section = section_text vhdl_section_grammar;
}
