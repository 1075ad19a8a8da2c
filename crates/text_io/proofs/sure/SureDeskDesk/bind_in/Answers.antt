use Rattle.std.proofs.Common.{refl}
use Rattle.text_io.proofs.NamedFilesLemmas.{found_at}
use Rattle.text_io.proofs.MemoryLemmas.{opened_as, file_told}
use Rattle.text_io.proofs.sure.SureDeskDesk.bind_in.Goals as goal

pub returns-clause-ok : goal.returns-clause-ok
returns-clause-ok c =
    let found = found_at _ _ _ c.in-Some.ensures.within c.in-Some.ensures.file in
    (found.0, file_told _ _ _ _ _ _ _ _ found.1 refl, opened_as _ _ _ _ _ _ _ _ _ _ c.set.ensures found.2 refl)
