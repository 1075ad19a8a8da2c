use Rattle.text_io.proofs.MemoryLemmas.{sure-created}
use Rattle.text_io.proofs.sure.SureDeskDesk.bind_out.Goals as goal

pub returns-clause-ok : goal.returns-clause-ok
returns-clause-ok c = sure-created _ _ _ _ _ _ c.set.ensures
