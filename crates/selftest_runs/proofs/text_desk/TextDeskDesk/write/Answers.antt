use Rattle.std.proofs.Common.{sym, ◌∙◌}
use Rattle.text_io.proofs.Wrote.{wrote-nil}
use Rattle.selftest_runs.proofs.KeptTextLemmas.{wrote_whole, elsewhere-wrote}
use Rattle.selftest_runs.proofs.text_desk.TextDeskDesk.write.Goals as goal

pub returns-then-is_empty-clause-ok : goal.returns-then-is_empty-clause-ok
returns-then-is_empty-clause-ok c = sym (wrote-nil _ _)

pub returns-then-not-keeps-clause-ok : goal.returns-then-not-keeps-clause-ok
returns-then-not-keeps-clause-ok c = elsewhere-wrote _ _ _ _ (sym c.keeps.ensures ∙ c.if-not-keeps.true)

pub returns-in-Ok-clause-ok : goal.returns-in-Ok-clause-ok
returns-in-Ok-clause-ok c = wrote_whole _ _ _ _ _ (sym c.keeps.ensures ∙ c.if-not-keeps.false) c.in-Ok.ensures.items
