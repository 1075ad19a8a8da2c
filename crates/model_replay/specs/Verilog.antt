-- Verilog as a language of models; what runs of a module is as in IEEE 1364-2005, clauses 8, 14 and 15.
use Rattle.std.specs.Prelude.{ℕ, List, Result}
use Rattle.udp_tables.specs.declared.models.ModelFault.{ModelFault}
use Rattle.verilog_grammar.specs.specify_blocks.declared.model.VModule.{VModule}
use Rattle.verilog_grammar.specs.specify_blocks.Sound.{IsSound}
use Rattle.model_traces.specs.ModuleTrace.{module_machine}
use Rattle.verilog_drivers.specs.VerilogSections.{verilog_sections}
use Rattle.file_models.specs.declared.file_model.FileModel.{FileModel}
use Rattle.model_files.specs.declared.format.ModelFormat.TheVariants as format
use Rattle.model_files.specs.Languages.{Language}
use Rattle.model_replay.specs.FileLanguages.{text_models, file_language}

-- the models of a text, its drivers among them, or its fault
abbrev pub verilog_models : List ℕ → Result (List (FileModel VModule)) ModelFault
verilog_models = text_models verilog_sections

abbrev pub verilog : Language (FileModel VModule)
verilog = file_language format.Verilog verilog_sections module_machine IsSound
