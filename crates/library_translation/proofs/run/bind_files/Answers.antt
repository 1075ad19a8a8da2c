use Rattle.std.proofs.Common.{[], ◌∷◌, ap, ◌∙◌, refl}
use Rattle.text_io.specs.declared.slots.InSlot.TheVariants.{Library}
use Rattle.text_io.specs.declared.slots.OutSlot.TheVariants.{VerilogText, VitalText}
use Rattle.text_io.specs.declared.slots.Slot.TheVariants.{Input, Output}
use Rattle.text_io.specs.Desk.{created}
use Rattle.library_translation.proofs.TranslateFiles.{binds_stopped, binds_last}
use Rattle.library_translation.proofs.run.bind_files.Goals as goal

pub returns-in_err-bind_in-clause-binds : goal.returns-in_err-bind_in-clause-binds
returns-in_err-bind_in-clause-binds g c =
    binds_stopped _ _ [] ((Input Library, 1) ∷ (Output VerilogText, 2) ∷ (Output VitalText, 3) ∷ []) (λ _. []) _ c.from_residual.ensures.0 refl c.in_err-bind_in.ensures.err tt

pub returns-in_err-bind_out-clause-binds : goal.returns-in_err-bind_out-clause-binds
returns-in_err-bind_out-clause-binds g c =
    let opening = c.in_ok-bind_in.ensures.ok in
    binds_stopped _ _ ((Input Library, 1) ∷ []) ((Output VerilogText, 2) ∷ (Output VitalText, 3) ∷ []) (λ _. opening.0) _ c.from_residual-in_err-bind_out.ensures.0 refl
    (c.in_err-bind_out.ensures.err ∙ opening.2) (opening.1, tt)

pub returns-clause-binds : goal.returns-clause-binds
returns-clause-binds g c =
    let opening = c.in_ok-bind_in.ensures.ok in
    binds_last _ _ _ opening.0 _ (c.in_ok-bind_out.ensures.ok ∙ ap (λ s. created s VerilogText) opening.2) opening.1 c.bind_out-2.ensures.ok c.bind_out-2.ensures.err
