use Rattle.text_io.proofs.HostLemmas.{files-took}
use Rattle.text_io.proofs.host.FileDeskDesk.read.Goals as goal

pub returns-in-Ok-clause-ok : goal.returns-in-Ok-clause-ok
returns-in-Ok-clause-ok c = files-took _ _ _ _ _
