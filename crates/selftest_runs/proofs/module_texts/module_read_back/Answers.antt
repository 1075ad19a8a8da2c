use Rattle.std.proofs.Common.{◌≡◌, ◌∙◌, ap, subst, IfOk}
use Rattle.cell_machine.specs.CellData.{data_of}
use Rattle.verilog_grammar.specs.specify_blocks.Generated.{module_of}
use Rattle.selftest_runs.proofs.ModuleTexts.{generated_module}
use Rattle.selftest_runs.proofs.module_texts.module_read_back.Goals as goal

pub read_back_module-requires : goal.read_back_module-requires
read_back_module-requires c =
    generated_module (data_of c.args.cell.now) c.modules_are_well_formed.ensures c.cell_is_numbered.ensures _
    (c.in_ok-model.ensures ∙ ap (λ cell. module_of (data_of cell)) (c.source.ensures ∙ c.in_ok-parts.ensures))

pub returns : goal.returns
returns c =
    subst (λ wanted. IfOk c.read_back_module.result (λ read. read ≡ wanted))
    (c.in_ok-model.ensures ∙ ap (λ cell. module_of (data_of cell)) (c.source.ensures ∙ c.in_ok-parts.ensures))
    c.read_back_module.ensures
