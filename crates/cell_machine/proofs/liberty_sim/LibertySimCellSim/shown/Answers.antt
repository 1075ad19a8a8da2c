use Rattle.std.proofs.Common.{◌∙◌, None}
use Rattle.trit_cubes.specs.declared.trits.Trit.TheVariants.{Zero, Unknown}
use Rattle.cell_machine.specs.CellData.{data_of}
use Rattle.cell_machine.specs.LibertyStands.{shown_after}
use Rattle.cell_machine.proofs.EachLemmas.{part-at}
use Rattle.cell_machine.proofs.liberty_sim.LibertySimCellSim.shown.Goals as goal

pub returns-clause-value : goal.returns-clause-value
returns-clause-value c = λ h st.
    let cell = data_of c.args.self.now.cell.now in
    part-at (shown_after cell h) (λ s. s.value) cell.outputs _ c.args.place (record { value = Zero; delay = None }) Unknown (c.as_slice.ensures ∙ st.shown_are) c.requires

pub returns-clause-delay : goal.returns-clause-delay
returns-clause-delay c = λ h st.
    let cell = data_of c.args.self.now.cell.now in
    part-at (shown_after cell h) (λ s. s.delay) cell.outputs _ c.args.place (record { value = Zero; delay = None }) None (c.as_slice.ensures ∙ st.shown_are) c.requires
