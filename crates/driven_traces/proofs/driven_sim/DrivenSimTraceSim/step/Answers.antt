use Rattle.std.proofs.Common.{◌≡◌, ◌∷◌, map, sym, subst}
use Rattle.driven_traces.specs.DrivenStands.{numbers, shown_after}
use Rattle.driven_traces.proofs.DrivenOutputs.{shown_next}
use Rattle.driven_traces.proofs.driven_sim.DrivenSimTraceSim.step.Goals as goal

pub returns-clause-stands : goal.returns-clause-stands
returns-clause-stands g c = λ h st.
    let sim = c.args.self.now in
    let core = c.step.ensures.stands h st.of_core in
    let before = subst (λ m. sim.shown ≡ map (shown_after sim.driver.now m.line h) (numbers sim.driver.now)) (sym c.step.ensures.machine) st.of_shown in
    record {
      of_core = core;
      of_shown =
          shown_next sim.driver.now (g.S.CellSim.machine c.step.new.self).line sim.shown c.show_all.new.shown
          (record { at = c.args.at; pin = c.args.pin; to = c.args.to }) h before (c.show_all.ensures.shown (_ ∷ h) core);
    }
