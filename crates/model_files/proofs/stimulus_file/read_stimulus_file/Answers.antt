use Rattle.std.proofs.Common.{ap, ◌∙◌}
use Rattle.text_io.specs.declared.slots.InSlot.TheVariants.{Stimulus}
use Rattle.run_outcome.specs.Status.{is_decided}
use Rattle.run_outcome.proofs.FileStepLaws.{err_is, undecided_stop, bound_then, unbound_ends, unread_ends, taken_as_values}
use Rattle.run_outcome.proofs.FileStepLaws.{taken_ends}
use Rattle.model_files.specs.Limits.{stimulus_limit}
use Rattle.model_files.specs.StimulusAnswer.{long_stimulus_stop, sections_in_text, stimulus_answer}
use Rattle.model_files.proofs.stimulus_file.read_stimulus_file.Goals as goal

pub returns-in_err-bind_in-clause-err : goal.returns-in_err-bind_in-clause-err
returns-in_err-bind_in-clause-err g c =
    err_is c.from_residual.result _ _ c.from_residual.ensures.1
    (λ y is. unbound_ends (stimulus_answer (g.B.BadLineStop.stop c.args.bad_line.now) c.args.catalog.now) _ _ Stimulus c.args.place y c.in_err-bind_in.ensures.err (ap is_decided is))

pub read_all-requires : goal.read_all-requires
read_all-requires g c = bound_then _ _ Stimulus c.in_ok-bind_in.ensures.ok.0 c.in_ok-bind_in.ensures.ok.2

pub returns-in_err-taken-clause-err : goal.returns-in_err-taken-clause-err
returns-in_err-taken-clause-err g c =
    let opening = c.in_ok-bind_in.ensures.ok in
    let read = c.in_err-taken.ensures.err in
    err_is c.from_residual-in_err-taken.result _ _ c.from_residual-in_err-taken.ensures.1
    (λ y is. unread_ends (stimulus_answer (g.B.BadLineStop.stop c.args.bad_line.now) c.args.catalog.now) _ _ _ Stimulus c.args.place opening.0 read.0 y opening.1 opening.2 read.2 (ap is_decided is ∙ undecided_stop c.in_err-taken.field-0.0))

pub returns-clause-ok : goal.returns-clause-ok
returns-clause-ok g c =
    let opening = c.in_ok-bind_in.ensures.ok in
    taken_as_values stimulus_limit long_stimulus_stop (sections_in_text (g.B.BadLineStop.stop c.args.bad_line.now) c.args.catalog.now) _ _ _ _ Stimulus c.args.place opening.0
    c.in_ok-taken.taken c.sections_taken.result opening.1 opening.2 c.in_ok-taken.ensures.ok c.sections_taken.ensures.ok

pub returns-clause-err : goal.returns-clause-err
returns-clause-err g c =
    let opening = c.in_ok-bind_in.ensures.ok in
    taken_ends stimulus_limit long_stimulus_stop (sections_in_text (g.B.BadLineStop.stop c.args.bad_line.now) c.args.catalog.now) _ _ _ _ Stimulus c.args.place opening.0
    c.in_ok-taken.taken c.sections_taken.result opening.1 opening.2 c.in_ok-taken.ensures.ok c.sections_taken.ensures.err
