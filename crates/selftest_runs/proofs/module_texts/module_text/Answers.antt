use Rattle.selftest_runs.proofs.ModuleTexts.{prelude_bound, module_written}
use Rattle.selftest_runs.proofs.module_texts.module_text.Goals as goal

pub write_model-requires : goal.write_model-requires
write_model-requires c = prelude_bound _ _ c.new-desk.ensures.state c.in_ok-write_prelude.ensures.text.whole

pub returns : goal.returns
returns c = module_written _ _ c.args.model.now _ _ c.new-desk.ensures.state c.in_ok-write_prelude.ensures.text.whole c.in_ok-write_model.ensures.text.whole
