use Rattle.std.proofs.Common.{◌∙◌, sym, ap}
use Rattle.driven_traces.specs.DrivenLines.{delay_by}
use Rattle.driven_traces.specs.DrivenStands.{shown_after}
use Rattle.driven_traces.proofs.DrivenOutputs.{delay_at, kept_delay}
use Rattle.driven_traces.proofs.driven_sim.DrivenSimTraceSim.delay.Goals as goal

pub returns-in-Some : goal.returns-in-Some
returns-in-Some g c = λ h st.
    kept_delay c.args.self.now.driver.now (g.S.CellSim.machine c.args.self.now.core).line _ h c.args.place c.in-Some.number _ c.requires (sym c.number.ensures ∙ c.in-Some.is) (c.as_slice.ensures ∙ st.of_shown)

pub returns-in-None : goal.returns-in-None
returns-in-None g c = λ h st.
    c.delay.ensures h st.of_core
    ∙ sym (delay_at c.args.self.now.driver.now (g.S.CellSim.machine c.args.self.now.core).line h c.args.place c.requires
    ∙ ap (delay_by ((g.S.CellSim.machine c.args.self.now.core).line h).delays (λ n. (shown_after c.args.self.now.driver.now (g.S.CellSim.machine c.args.self.now.core).line h n).delay) c.args.place) (sym c.number.ensures ∙ c.in-None.is))
