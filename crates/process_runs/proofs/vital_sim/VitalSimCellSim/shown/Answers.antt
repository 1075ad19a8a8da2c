use Rattle.std.proofs.Common.{◌∙◌, ap, None}
use Rattle.trit_cubes.specs.declared.trits.Trit.TheVariants.{Zero, Unknown}
use Rattle.cell_machine.specs.declared.shown.Shown.{Shown as Alone}
use Rattle.cell_machine.proofs.EachLemmas.{part-at}
use Rattle.process_runs.specs.EntitySteps.{output_shown}
use Rattle.process_runs.proofs.vital_sim.VitalSimCellSim.shown.Goals as goal

pub returns-clause-value : goal.returns-clause-value
returns-clause-value c = λ h st.
    let model = c.args.self.now.model.now in
    ap (λ (s : Alone). s.value) c.alone.ensures
    ∙ part-at (output_shown model h) (λ s. s.value) model.outputs _ c.args.place (record { port = 0; value = Zero; delay = None }) Unknown (c.as_slice.ensures ∙ st.shown_are) c.requires

pub returns-clause-delay : goal.returns-clause-delay
returns-clause-delay c = λ h st.
    let model = c.args.self.now.model.now in
    ap (λ (s : Alone). s.delay) c.alone.ensures
    ∙ part-at (output_shown model h) (λ s. s.delay) model.outputs _ c.args.place (record { port = 0; value = Zero; delay = None }) None (c.as_slice.ensures ∙ st.shown_are) c.requires
