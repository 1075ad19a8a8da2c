use Rattle.text_io.proofs.HostLemmas.{files-wrote}
use Rattle.text_io.proofs.host.FileDeskDesk.write.Goals as goal

pub returns-then-is_empty-clause-ok : goal.returns-then-is_empty-clause-ok
returns-then-is_empty-clause-ok c = files-wrote _ _ _ _ _

pub returns-in-Ok-clause-ok : goal.returns-in-Ok-clause-ok
returns-in-Ok-clause-ok c = files-wrote _ _ _ _ _
