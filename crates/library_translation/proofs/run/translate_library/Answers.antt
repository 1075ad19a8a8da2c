use Rattle.run_outcome.proofs.LibraryRunLaws.{bound_all, named_all}
use Rattle.library_translation.proofs.TranslateFiles.{library_bound, verilog_bound, vital_bound, unbound, translated_runs}
use Rattle.library_translation.proofs.run.translate_library.Goals as goal

pub returns-in-Err-clause-writes : goal.returns-in-Err-clause-writes
returns-in-Err-clause-writes g c = unbound _ _ _ c.in-Err.ensures.binds

pub translate_bound-requires-clause-library : goal.translate_bound-requires-clause-library
translate_bound-requires-clause-library g c =
    library_bound _ _ c.in-Ok.ensures.binds.bytes (bound_all _ _ _ _ c.in-Ok.ensures.binds)

pub translate_bound-requires-clause-models : goal.translate_bound-requires-clause-models
translate_bound-requires-clause-models g c =
    let all = bound_all _ _ _ _ c.in-Ok.ensures.binds in
    record { verilog = verilog_bound _ _ c.in-Ok.ensures.binds.bytes all; vital = vital_bound _ _ c.in-Ok.ensures.binds.bytes all }

pub returns-in-Ok-translate_bound-clause-writes : goal.returns-in-Ok-translate_bound-clause-writes
returns-in-Ok-translate_bound-clause-writes g c =
    let binds = c.in-Ok.ensures.binds in
    let text = c.in-Ok-translate_bound.ensures.text in
    translated_runs _ _ _ binds.bytes _ text.taken text.text text.faults (bound_all _ _ _ _ binds) (named_all _ _ _ _ binds) text.models text.state text.part (λ d. text.whole)

pub returns-in-Err-Failed-clause-writes : goal.returns-in-Err-Failed-clause-writes
returns-in-Err-Failed-clause-writes g c =
    let binds = c.in-Ok.ensures.binds in
    let text = c.in-Err-Failed.ensures.text in
    translated_runs _ _ _ binds.bytes _ text.taken text.text text.faults (bound_all _ _ _ _ binds) (named_all _ _ _ _ binds) text.models text.state text.part (λ d. absurd cc)

pub returns-in-Err-Memory-clause-writes : goal.returns-in-Err-Memory-clause-writes
returns-in-Err-Memory-clause-writes g c =
    let binds = c.in-Ok.ensures.binds in
    let text = c.in-Err-Memory.ensures.text in
    translated_runs _ _ _ binds.bytes _ text.taken text.text text.faults (bound_all _ _ _ _ binds) (named_all _ _ _ _ binds) text.models text.state text.part (λ d. absurd cc)
