use Rattle.std.proofs.Common.{sym}
use Rattle.text_io.proofs.Wrote.{wrote-nil}
use Rattle.text_io.proofs.gate.GatedDeskDesk.write.Goals as goal

pub returns-then-is_empty-clause-ok : goal.returns-then-is_empty-clause-ok
returns-then-is_empty-clause-ok g c = sym (wrote-nil _ _)
