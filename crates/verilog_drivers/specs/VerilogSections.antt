-- Verilog as a language of models and of sections that hold drivers. (IEEE 1364-2005, 12.1, modules, and 19.1, `celldefine; that
-- such a section holds a driver is this project's rule.)
use Rattle.std.specs.Prelude.{[], ◌∷◌, codes}
use Rattle.std.specs.Str.{bytes_eq}
use Rattle.verilog_tokens.specs.Tokens.{lexis}
use Rattle.verilog_grammar.specs.specify_blocks.declared.model.VModule.{VModule}
use Rattle.verilog_grammar.specs.VerilogText.{verilog_text}
use Rattle.verilog_grammar.specs.WellFormed.{outer_names}
use Rattle.section_outlines.specs.VerilogMarks.{verilog_marks}
use Rattle.driver_texts.specs.Sections.{section_text}
use Rattle.verilog_drivers.specs.DriverSections.{verilog_section_grammar}
use Rattle.sectioned_texts.specs.DrivenModels.{SectionLanguage}

abbrev pub verilog_sections : SectionLanguage VModule
verilog_sections = record {
  vocabulary = record { lexis = lexis; is_same = bytes_eq };
  marks = verilog_marks;
  model_end = record { words = codes "endmodule" ∷ []; closing = codes "endmodule" };
  text = verilog_text;
  names = outer_names;
  core = λ (m : VModule). record { name = m.name; ports = m.ports };
  section = section_text verilog_section_grammar;
}
