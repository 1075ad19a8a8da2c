use Rattle.text_io.proofs.MemoryLemmas.{sure-wrote}
use Rattle.text_io.proofs.sure.SureDeskDesk.write.Goals as goal

pub returns-clause-ok : goal.returns-clause-ok
returns-clause-ok c = sure-wrote _ _ _ _ _ _
