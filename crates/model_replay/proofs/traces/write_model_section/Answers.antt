use Rattle.std.proofs.Common.{◌≡◌, IfOk, [], sym, ap, subst, ◌∙◌}
use Rattle.cell_machine.specs.History.{IsProperFrom}
use Rattle.stimulus.specs.DriveLines.{DriveMachine}
use Rattle.stimulus.proofs.Runs.{appends_nothing}
use Rattle.file_models.specs.FileModels.{machine_by}
use Rattle.model_replay.proofs.traces.write_model_section.Goals as goal

pub write_section-requires-clause-inputs : goal.write_section-requires-clause-inputs
write_section-requires-clause-inputs g c =
    let machine = machine_by g.M.ModelCore.machine c.args.model.now in
    let same = subst (λ r. IfOk r (λ sim. g.S.TraceSim.machine sim ≡ machine)) c.in-Ok.is c.requires.machine in
    c.requires.given.inputs ∙ sym (ap (λ (m : DriveMachine). m.inputs) same)

pub write_section-requires-clause-outputs : goal.write_section-requires-clause-outputs
write_section-requires-clause-outputs g c =
    let machine = machine_by g.M.ModelCore.machine c.args.model.now in
    let same = subst (λ r. IfOk r (λ sim. g.S.TraceSim.machine sim ≡ machine)) c.in-Ok.is c.requires.machine in
    c.requires.given.outputs ∙ sym (ap (λ (m : DriveMachine). m.outputs) same)

pub write_section-requires-clause-start : goal.write_section-requires-clause-start
write_section-requires-clause-start g c = subst (λ r. IfOk r (λ sim. g.S.TraceSim.stands sim [])) c.in-Ok.is c.requires.stands

pub write_section-requires-clause-proper : goal.write_section-requires-clause-proper
write_section-requires-clause-proper g c =
    let machine = machine_by g.M.ModelCore.machine c.args.model.now in
    let same = subst (λ r. IfOk r (λ sim. g.S.TraceSim.machine sim ≡ machine)) c.in-Ok.is c.requires.machine in
    subst (λ n. IsProperFrom n [] c.args.changes.now) (sym (ap (λ (m : DriveMachine). m.inputs) same)) c.requires.given.proper

pub returns-in-Ok-clause-text : goal.returns-in-Ok-clause-text
returns-in-Ok-clause-text g c =
    let machine = machine_by g.M.ModelCore.machine c.args.model.now in
    let same = subst (λ r. IfOk r (λ sim. g.S.TraceSim.machine sim ≡ machine)) c.in-Ok.is c.requires.machine in
    rw (same, c.as_slice-name.ensures) at c.write_section.ensures.text

pub returns-in-Err-clause-text : goal.returns-in-Err-clause-text
returns-in-Err-clause-text g c = appends_nothing _ _ _ cc
