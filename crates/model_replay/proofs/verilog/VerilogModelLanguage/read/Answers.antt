use Rattle.std.proofs.Common.{List, sym, subst}
use Rattle.std.specs.Prelude.{All}
use Rattle.verilog_grammar.specs.specify_blocks.declared.model.VModule.{VModule}
use Rattle.file_models.specs.declared.file_model.FileModel.{FileModel}
use Rattle.model_files.specs.ModelNames.{HaveOwnNames}
use Rattle.model_replay.specs.Verilog.{verilog}
use Rattle.model_replay.proofs.VerilogModels.{modules_apart, found_in, of_found}
use Rattle.model_replay.proofs.verilog.VerilogModelLanguage.read.Goals as goal

pub file_models-requires-clause-apart : goal.file_models-requires-clause-apart
file_models-requires-clause-apart c =
    modules_apart c.in_ok-found.found.models (found_in c.args.text.now c.in_ok-found.found c.in_ok-found.ensures.found).models.apart

pub file_models-requires-clause-are_names : goal.file_models-requires-clause-are_names
file_models-requires-clause-are_names c = λ k d below. ((found_in c.args.text.now c.in_ok-found.found c.in_ok-found.ensures.found).named k d below).core

pub returns-clause-well_formed : goal.returns-clause-well_formed
returns-clause-well_formed c =
    subst (λ (models : List (FileModel VModule)). All verilog.is_well_formed models) (sym c.in_ok-file_models.ensures)
    (of_found c.in_ok-found.found (found_in c.args.text.now c.in_ok-found.found c.in_ok-found.ensures.found)).well_formed

pub returns-clause-own : goal.returns-clause-own
returns-clause-own c =
    subst (λ (models : List (FileModel VModule)). HaveOwnNames verilog models) (sym c.in_ok-file_models.ensures)
    (of_found c.in_ok-found.found (found_in c.args.text.now c.in_ok-found.found c.in_ok-found.ensures.found)).own
