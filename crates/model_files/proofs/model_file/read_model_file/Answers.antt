use Rattle.std.proofs.Common.{◌≡◌, ℕ, ◌+◌, List, ap, subst, ◌∙◌}
use Rattle.text_io.specs.declared.slots.InSlot.{InSlot}
use Rattle.text_io.specs.declared.reading.Taken.{Taken}
use Rattle.text_io.specs.Desk.{DeskState, opened}
use Rattle.text_io.specs.Read.{IsRead, ReadsAtMost}
use Rattle.run_outcome.specs.Status.{is_decided}
use Rattle.run_outcome.proofs.FileStepLaws.{err_is, undecided_stop, bound_then, unbound_ends, unread_ends, taken_as_values}
use Rattle.run_outcome.proofs.FileStepLaws.{taken_ends}
use Rattle.model_files.specs.Formats.{slot_of}
use Rattle.model_files.specs.Limits.{model_limit}
use Rattle.model_files.specs.ModelAnswer.{long_model_stop, models_in_text, model_answer}
use Rattle.model_files.proofs.model_file.read_model_file.Goals as goal

pub returns-in_err-bind_in-clause-err : goal.returns-in_err-bind_in-clause-err
returns-in_err-bind_in-clause-err g c =
    let l = g.L.ModelLanguage.language in
    err_is c.from_residual.result _ _ c.from_residual.ensures.1
    (λ y is. unbound_ends (model_answer l) _ _ (slot_of l.format) c.args.place y c.in_err-bind_in.ensures.err (ap is_decided is))

pub read_all-requires : goal.read_all-requires
read_all-requires g c = bound_then _ _ c.slot-slot.result c.in_ok-bind_in.ensures.ok.0 c.in_ok-bind_in.ensures.ok.2

pub returns-in_err-taken-clause-err : goal.returns-in_err-taken-clause-err
returns-in_err-taken-clause-err g c =
    let l = g.L.ModelLanguage.language in
    let old = g.D.Desk.state c.args.desk.now in
    let mid = g.D.Desk.state c.bind_in.new.self in
    let now = g.D.Desk.state c.read_all.new.desk in
    let opening = c.in_ok-bind_in.ensures.ok in
    let same : c.slot-slot.result ≡ slot_of l.format = c.slot-slot.ensures ∙ ap slot_of c.format.ensures in
    let bound = subst (λ s. mid ≡ opened old s opening.0) same opening.2 in
    let read = subst (λ s. ReadsAtMost mid now s (model_limit + 1)) same c.in_err-taken.ensures.err in
    err_is c.from_residual-in_err-taken.result _ _ c.from_residual-in_err-taken.ensures.1
    (λ y is. unread_ends (model_answer l) old mid now (slot_of l.format) c.args.place opening.0 read.0 y opening.1 bound read.2 (ap is_decided is ∙ undecided_stop c.in_err-taken.field-0.0))

-- what was bound and read at a slot, by another name of the slot
placed :
    (old mid now : DeskState) (s slot : InSlot) (bytes : List ℕ) (taken : Taken)
    → s ≡ slot → mid ≡ opened old s bytes → IsRead mid now s model_limit taken
    → (mid ≡ opened old slot bytes) × IsRead mid now slot model_limit taken
placed old mid now s slot bytes taken same bound read =
    (subst (λ t. mid ≡ opened old t bytes) same bound, subst (λ t. IsRead mid now t model_limit taken) same read)

pub returns-clause-ok : goal.returns-clause-ok
unfolding model_answer
returns-clause-ok g c =
    let l = g.L.ModelLanguage.language in
    let opening = c.in_ok-bind_in.ensures.ok in
    let there = placed _ _ _ _ (slot_of l.format) _ _ (c.slot-slot.ensures ∙ ap slot_of c.format.ensures) opening.2 c.in_ok-taken.ensures.ok in
    taken_as_values model_limit (long_model_stop l.format) (models_in_text l) _ _ _ _ (slot_of l.format) c.args.place opening.0
    c.in_ok-taken.taken c.models_taken.result opening.1 there.0 there.1 c.models_taken.ensures.ok

pub returns-clause-err : goal.returns-clause-err
unfolding model_answer
returns-clause-err g c =
    let l = g.L.ModelLanguage.language in
    let named = c.slot-slot.ensures ∙ ap slot_of c.format.ensures in
    let there = placed _ _ _ _ (slot_of l.format) _ _ named c.in_ok-bind_in.ensures.ok.2 c.in_ok-taken.ensures.ok in
    taken_ends model_limit (long_model_stop l.format) (models_in_text l) _ _ _ _ (slot_of l.format) c.args.place c.in_ok-bind_in.ensures.ok.0
    c.in_ok-taken.taken c.models_taken.result c.in_ok-bind_in.ensures.ok.1 there.0 there.1 c.models_taken.ensures.err
