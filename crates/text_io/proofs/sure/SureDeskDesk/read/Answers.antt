use Rattle.std.proofs.Common.{sym, ◌∙◌, refl}
use Rattle.text_io.proofs.MemoryLemmas.{took_as}
use Rattle.text_io.proofs.sure.SureDeskDesk.read.Goals as goal

pub returns-clause-ok : goal.returns-clause-ok
returns-clause-ok c =
    let rest = rw c.as_slice.ensures.value at c.read_on-count.ensures.rest in
    took_as _ _ _ _ _ _ _ _ _ _ _ c.set.ensures (sym c.get.ensures ∙ c.in-Some.is) rest refl
