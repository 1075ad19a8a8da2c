use Rattle.std.proofs.Common.{◌∙◌, ap, sym, subst, length}
use Rattle.std.proofs.lemmas.List.{length-replicate}
use Rattle.trit_cubes.specs.declared.trits.Trit.TheVariants.{Unknown}
use Rattle.process_runs.specs.declared.process_run.ProcessState.{ProcessState}
use Rattle.process_runs.specs.EntityRooms.{HasRoom}
use Rattle.process_runs.specs.KeptConditions.{condition_values}
use Rattle.process_runs.proofs.entity_start.EntityStart.state.Goals as goal

pub returns-clause-conditions : goal.returns-clause-conditions
returns-clause-conditions c =
    c.in_ok-conditions.ensures ∙ c.as_slice.ensures ∙ c.requires.conditions_are
    ∙ ap (λ (r : ProcessState). condition_values c.args.model.now r.inputs) (sym c.in_ok-start_state.ensures.run)

pub returns-clause-earlier : goal.returns-clause-earlier
returns-clause-earlier c =
    subst (λ n. HasRoom n c.args.model.now)
    (sym (ap length c.in_ok-earlier.ensures ∙ length-replicate c.most_columns-most.result Unknown)) c.most_columns-most.ensures

pub returns-clause-room : goal.returns-clause-room
returns-clause-room c =
    subst (λ n. HasRoom n c.args.model.now)
    (sym (ap length c.in_ok-room.ensures ∙ length-replicate c.most_columns-most.result Unknown)) c.most_columns-most.ensures
