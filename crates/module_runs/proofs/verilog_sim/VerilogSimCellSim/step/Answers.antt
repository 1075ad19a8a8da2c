use Rattle.std.proofs.Common.{List, ap, sym, subst, ◌∙◌}
use Rattle.trit_cubes.specs.declared.trits.Trit.{Trit}
use Rattle.run_parts.specs.KeptDelays.{AreKept}
use Rattle.module_runs.specs.declared.module_start.ModuleStart.{ModuleStart}
use Rattle.module_runs.specs.Gates.{gate_zeros}
use Rattle.module_runs.specs.ModuleIndexed.{IsModuleIndex}
use Rattle.module_runs.specs.OutputPaths.{output_paths}
use Rattle.module_runs.proofs.GateLemmas.{same-paths}
use Rattle.module_runs.proofs.ModuleSteps.{change-stands}
use Rattle.module_runs.proofs.verilog_sim.VerilogSimCellSim.step.Goals as goal

pub returns-clause-stands : goal.returns-clause-stands
returns-clause-stands c = λ h st.
    let sim = c.args.self.now in
    let shown = rw (c.as_slice.ensures, c.as_slice-2.ensures) at c.show_all.ensures.stepped in
    change-stands sim.model.now sim.state.run sim.reports sim.shown h (record { at = c.args.at; pin = c.args.pin; to = c.args.to })
    c.step-changed.new.self.run c.step-changed.new.reports c.show_all.new.shown st c.step-changed.ensures.stepped c.step-changed.ensures.reports shown

pub show_all-requires : goal.show_all-requires
show_all-requires c =
    let sim = c.args.self.now in
    let m = sim.model.now in
    let run = c.step-changed.new.self.run in
    let known = c.get.result.now in
    let indexed = subst (λ (k : ModuleStart). IsModuleIndex m k.index) (sym c.get.ensures) sim.indexed in
    record {
      kept =
          subst (λ (v : List Trit). AreKept (output_paths m v c.as_slice-2.result.now) c.forget_where.new.self) (sym c.as_slice.ensures)
          (subst (λ (s : List Trit). AreKept (output_paths m run.inputs s) c.forget_where.new.self) (sym c.as_slice-2.ensures)
          (c.forget_where.ensures (output_paths m sim.state.run.inputs sim.state.run.states) (output_paths m run.inputs run.states) sim.delays_kept
          (λ still.
          let both = c.either.ensures still in
          same-paths m known.index.gates sim.state.run.inputs sim.state.run.states run.inputs run.states indexed.gated both.1
          (ap (gate_zeros known.index.gates.places) (sym sim.ready.current.kept_are)
          ∙ sym (c.step-changed.ensures.still both.0)
          ∙ ap (gate_zeros known.index.gates.places) c.step-changed.ensures.ready.current.kept_are))));
    }
