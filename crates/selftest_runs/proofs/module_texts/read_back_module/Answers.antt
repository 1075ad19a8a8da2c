use Rattle.std.proofs.Common.{◌∙◌, ap}
use Rattle.verilog_grammar.specs.VerilogText.{verilog_text}
use Rattle.selftest_runs.proofs.OneModels.{one_read}
use Rattle.selftest_runs.proofs.module_texts.read_back_module.Goals as goal

pub returns : goal.returns
returns c =
    one_read _ c.args.model.now c.read_models.result c.one_model.result
    (ap verilog_text (c.as_slice.ensures.value ∙ c.in_ok-text.ensures) ∙ (c.written_modules_read_back.ensures _ c.requires).answer)
    c.read_models.ensures.modules c.one_model.ensures
