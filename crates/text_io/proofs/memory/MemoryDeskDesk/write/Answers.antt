use Rattle.std.proofs.Common.{ap, sym, ◌∙◌, take, arith}
use Rattle.std.proofs.lemmas.List.{take-take, length-take}
use Rattle.text_io.specs.Memory.{memory_of}
use Rattle.text_io.proofs.Wrote.{wrote-nil}
use Rattle.text_io.proofs.MemoryLemmas.{wrote_as, kept_as}
use Rattle.text_io.proofs.memory.MemoryDeskDesk.write.Goals as goal

pub returns-then-is_empty-clause-ok : goal.returns-then-is_empty-clause-ok
returns-then-is_empty-clause-ok c = sym (wrote-nil _ _)

pub returns-then-count-eq0-clause-err : goal.returns-then-count-eq0-clause-err
returns-then-count-eq0-clause-err c =
    let same = ap (λ d. (memory_of d).desk) c.in_ok-count_call.ensures.counted in
    let nothing = ap (λ k. take k (take c.min-most.result c.args.bytes.now)) c.if-count-eq0.true in
    ap (λ d. (memory_of d).desk) c.fault.ensures.counted ∙ kept_as _ _ _ _ _ _ _ _ _ c.append-count.ensures.bytes nothing same

pub returns-clause-ok : goal.returns-clause-ok
returns-clause-ok c =
    let same = ap (λ d. (memory_of d).desk) c.in_ok-count_call.ensures.counted in
    wrote_as _ _ _ _ _ _ _ _ _ _ c.append-count.ensures.bytes (take-take c.append-count.result c.min-most.result c.args.bytes.now (omega (arith, c.append-count.ensures.count, length-take c.min-most.result c.args.bytes.now))) same
