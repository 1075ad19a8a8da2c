use Rattle.std.proofs.Common.{◌∙◌, sym, ap}
use Rattle.stimulus.specs.DriveLines.{drive_of}
use Rattle.driven_traces.specs.DrivenLines.{value_by}
use Rattle.driven_traces.proofs.DrivenOutputs.{value_at, kept_value}
use Rattle.driven_traces.proofs.driven_sim.DrivenSimTraceSim.value.Goals as goal

pub returns-in-Some : goal.returns-in-Some
returns-in-Some g c = λ h st.
    kept_value c.args.self.now.driver.now (g.S.CellSim.machine c.args.self.now.core).line _ h c.args.place c.in-Some.number _ c.requires (sym c.number.ensures ∙ c.in-Some.is) (c.as_slice.ensures ∙ st.of_shown)

pub returns-in-None : goal.returns-in-None
returns-in-None g c = λ h st.
    c.of.ensures ∙ ap drive_of (c.output.ensures h st.of_core)
    ∙ sym (value_at c.args.self.now.driver.now (g.S.CellSim.machine c.args.self.now.core).line h c.args.place c.requires
    ∙ ap (value_by c.args.self.now.driver.now ((g.S.CellSim.machine c.args.self.now.core).line h).values c.args.place) (sym c.number.ensures ∙ c.in-None.is))
