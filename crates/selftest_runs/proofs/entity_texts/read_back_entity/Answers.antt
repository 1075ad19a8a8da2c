use Rattle.std.proofs.Common.{◌∙◌, ap}
use Rattle.vhdl_grammar.specs.VhdlText.{vhdl_text}
use Rattle.selftest_runs.proofs.OneModels.{one_read}
use Rattle.selftest_runs.proofs.entity_texts.read_back_entity.Goals as goal

pub returns : goal.returns
returns c =
    one_read _ c.args.entity.now c.read_entities.result c.one_model.result
    (ap vhdl_text (c.as_slice.ensures.value ∙ c.in_ok-text.ensures) ∙ (c.written_entities_read_back.ensures _ c.requires).answer)
    c.read_entities.ensures.entities c.one_model.ensures
