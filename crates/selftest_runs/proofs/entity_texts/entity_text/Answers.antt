use Rattle.selftest_runs.proofs.EntityTexts.{entity_written}
use Rattle.selftest_runs.proofs.entity_texts.entity_text.Goals as goal

pub returns : goal.returns
returns c = entity_written _ _ c.args.entity.now _ c.new-desk.ensures.state c.in_ok-write_entity.ensures.text.whole
