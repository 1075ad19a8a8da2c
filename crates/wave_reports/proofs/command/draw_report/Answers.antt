use Rattle.std.proofs.Common.{◌≡◌, ◌∙◌, true, false, ap, sym}
use Rattle.run_outcome.specs.Status.{is_decided}
use Rattle.run_outcome.proofs.FileStepLaws.{undecided_stop}
use Rattle.run_outcome.proofs.LibraryRunLaws.{bound_all, named_all, unbound_runs}
use Rattle.wave_reports.proofs.BoundFiles.{both_bound, drawn_runs}
use Rattle.wave_reports.proofs.command.draw_report.Goals as goal

pub returns-in-Err-clause-writes : goal.returns-in-Err-clause-writes
returns-in-Err-clause-writes g c = unbound_runs _ _ _ _ _ c.in-Err.ensures.binds

pub draw_bound-requires-clause-report : goal.draw_bound-requires-clause-report
draw_bound-requires-clause-report g c = (both_bound _ _ c.in-Ok.ensures.binds.bytes (bound_all _ _ _ _ c.in-Ok.ensures.binds)).0

pub draw_bound-requires-clause-dump : goal.draw_bound-requires-clause-dump
draw_bound-requires-clause-dump g c = (both_bound _ _ c.in-Ok.ensures.binds.bytes (bound_all _ _ _ _ c.in-Ok.ensures.binds)).1

pub returns-in-Ok-draw_bound-clause-writes : goal.returns-in-Ok-draw_bound-clause-writes
returns-in-Ok-draw_bound-clause-writes g c =
    let binds = c.in-Ok.ensures.binds in
    let text = c.in-Ok-draw_bound.ensures.text in
    drawn_runs _ _ _ binds.bytes _ text.taken text.text text.faults (bound_all _ _ _ _ binds) (named_all _ _ _ _ binds) text.state text.part (λ d. text.whole)

pub returns-in-Err-draw_bound-clause-writes : goal.returns-in-Err-draw_bound-clause-writes
returns-in-Err-draw_bound-clause-writes g c =
    let binds = c.in-Ok.ensures.binds in
    let text = c.in-Err-draw_bound.ensures.text in
    drawn_runs _ _ _ binds.bytes _ text.taken text.text text.faults (bound_all _ _ _ _ binds) (named_all _ _ _ _ binds) text.state text.part (λ d.
    let decided : false ≡ true = sym (undecided_stop _) ∙ ap is_decided (sym c.from.ensures) ∙ d in absurd cc)
