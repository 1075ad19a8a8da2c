use Rattle.std.proofs.Common.{ap}
use Rattle.text_io.specs.Memory.{memory_of}
use Rattle.text_io.proofs.MemoryLemmas.{created_as}
use Rattle.text_io.proofs.memory.MemoryDeskDesk.bind_out.Goals as goal

pub returns-clause-ok : goal.returns-clause-ok
returns-clause-ok c =
    created_as _ _ _ _ _ _ _ _ _ c.set.ensures c.clear.ensures.bytes (ap (λ d. (memory_of d).desk) c.in_ok-count_call.ensures.counted)
