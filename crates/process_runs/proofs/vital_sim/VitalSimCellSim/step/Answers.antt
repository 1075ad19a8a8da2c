use Rattle.std.proofs.Common.{◌∙◌, ap, sym, subst, List}
use Rattle.trit_cubes.specs.declared.trits.Trit.{Trit}
use Rattle.run_parts.specs.KeptDelays.{AreKept, zeros}
use Rattle.process_runs.specs.NumberedPaths.{numbered_paths}
use Rattle.process_runs.proofs.NumberedPathLemmas.{same-paths}
use Rattle.process_runs.proofs.EntityLemmas.{entity-changes}
use Rattle.process_runs.proofs.vital_sim.VitalSimCellSim.step.Goals as goal

pub returns-clause-stands : goal.returns-clause-stands
returns-clause-stands c = λ h st.
    let sim = c.args.self.now in
    let shown = rw (c.as_slice.ensures, c.as_slice-2.ensures) at c.show_entity.ensures.stepped in
    entity-changes sim.model.now sim.ready.sound sim.state.run sim.reports sim.shown h st
    (record { at = c.args.at; pin = c.args.pin; to = c.args.to }) c.step_run-changed.new.run c.step_run-changed.new.reports c.show_entity.new.shown
    c.step_run-changed.ensures.stepped c.step_run-changed.ensures.reports shown

pub show_entity-requires-clause-kept : goal.show_entity-requires-clause-kept
show_entity-requires-clause-kept c =
    let sim = c.args.self.now in
    let e = sim.model.now in
    let run = c.step_run-changed.new.run in
    subst (λ (v : List Trit). AreKept (numbered_paths e v) c.forget_where.new.self) (sym c.as_slice.ensures)
    (c.forget_where.ensures (numbered_paths e sim.state.run.inputs) (numbered_paths e run.inputs) sim.kept
    (λ still.
    same-paths e sim.state.run.inputs run.inputs
    (ap zeros (sym sim.ready.current)
    ∙ sym (c.step_run-changed.ensures.still still)
    ∙ ap zeros c.step_run-changed.ensures.ready.current)))
