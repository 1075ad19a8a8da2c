use Rattle.std.proofs.Common.{ap, sym, ◌∙◌}
use Rattle.text_io.specs.Memory.{memory_of}
use Rattle.text_io.proofs.MemoryLemmas.{took_as}
use Rattle.text_io.proofs.memory.MemoryDeskDesk.read.Goals as goal

pub returns-clause-ok : goal.returns-clause-ok
returns-clause-ok c =
    let same = ap (λ d. (memory_of d).desk) c.in_ok-count_call.ensures.counted in
    let rest = rw c.as_slice.ensures.value at c.read_on-count.ensures.rest in
    took_as _ _ _ _ _ _ _ _ _ _ _ c.set.ensures (sym c.get.ensures ∙ c.in-Some.is) rest same
