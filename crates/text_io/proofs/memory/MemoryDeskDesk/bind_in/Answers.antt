use Rattle.std.proofs.Common.{◌≡◌, sym, ap, false, refl}
use Rattle.text_io.specs.Memory.{memory_of, next_fails}
use Rattle.text_io.proofs.NamedFilesLemmas.{found_at}
use Rattle.text_io.proofs.MemoryLemmas.{opened_as, file_told, folder_told, missing_not}
use Rattle.text_io.proofs.memory.MemoryDeskDesk.bind_in.Goals as goal

pub returns-clause-ok : goal.returns-clause-ok
returns-clause-ok c =
    let same = ap (λ d. (memory_of d).desk) c.in_ok-count_call.ensures.counted in
    let found = found_at _ _ _ c.in-Some.ensures.within c.in-Some.ensures.file in
    (found.0, file_told _ _ _ _ _ _ _ _ found.1 same, opened_as _ _ _ _ _ _ _ _ _ _ c.set.ensures found.2 same)

pub returns-clause-fails : goal.returns-clause-fails
returns-clause-fails c =
    let same = ap (λ d. (memory_of d).desk) c.in_ok-count_call.ensures.counted in
    let found = found_at _ _ _ c.in-Some.ensures.within c.in-Some.ensures.file in
    let there = missing_not (memory_of c.args.self.now) c.args.place found.0 _ (folder_told _ _ _ _ _) (file_told _ _ _ _ _ _ _ _ found.1 same) in
    let passes : next_fails (memory_of c.args.self.now) ≡ false = sym c.in_ok-count_call.ensures.fails in
    rw (passes, there) refl
