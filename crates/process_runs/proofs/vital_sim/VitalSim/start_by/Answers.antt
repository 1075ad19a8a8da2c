use Rattle.std.proofs.Common.{◌∙◌, ap, sym, subst, length, replicate, false}
use Rattle.std.proofs.lemmas.List.{length-replicate}
use Rattle.process_runs.specs.declared.entity_start.EntityStart.{EntityStart}
use Rattle.process_runs.specs.EntityStarts.{IsEntityStart}
use Rattle.process_runs.proofs.EntityLemmas.{entity-starts}
use Rattle.process_runs.specs.NumberedPaths.{numbered_paths}
use Rattle.process_runs.proofs.vital_sim.VitalSim.start_by.Goals as goal

pub invariant_of-result-clause-ready : goal.invariant_of-result-clause-ready
invariant_of-result-clause-ready c =
    let state = c.in_ok-state.ensures in
    record {
      sound = c.requires.sound;
      current = state.conditions;
      earlier = state.earlier;
      room = state.room;
      each_input = state.each_input;
      one_each = state.one_each;
      one_report = ap length c.in_ok-reports.ensures ∙ length-replicate c.len.result false ∙ c.len.ensures;
    }

pub invariant_of-result-clause-kept : goal.invariant_of-result-clause-kept
invariant_of-result-clause-kept c = c.in_ok-delays.ensures (numbered_paths c.args.model.now c.in_ok-state.state.run.inputs)

pub returns-clause-stands : goal.returns-clause-stands
returns-clause-stands c =
    let shown = c.in_ok-shown.ensures ∙ c.as_slice.ensures ∙ ap (λ (k : EntityStart). k.shown) c.get-start.ensures ∙ c.requires.known.shown_are in
    entity-starts c.args.model.now c.in_ok-state.state.run c.in_ok-reports.reports c.in_ok-shown.shown c.in_ok-state.ensures.run
    (c.in_ok-reports.ensures ∙ ap (λ n. replicate n false) c.len.ensures) shown

pub state-requires : goal.state-requires
state-requires c = subst (λ (k : EntityStart). IsEntityStart c.args.model.now k) (sym c.get-start.ensures) c.requires.known
