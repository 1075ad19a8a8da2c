use Rattle.std.proofs.Common.{◌∙◌, ap, length, replicate, false}
use Rattle.std.proofs.lemmas.List.{length-replicate}
use Rattle.module_runs.specs.OutputPaths.{output_paths}
use Rattle.module_runs.specs.declared.module_start.ModuleStart.{ModuleStart}
use Rattle.module_runs.proofs.ModuleSteps.{start-stands}
use Rattle.module_runs.proofs.verilog_sim.VerilogSim.start_by.Goals as goal

pub returns-clause-stands : goal.returns-clause-stands
returns-clause-stands c =
    let shown = c.in_ok-shown.ensures ∙ c.as_slice.ensures ∙ ap (λ (k : ModuleStart). k.shown) c.get-start.ensures ∙ c.requires.known.shown_are in
    start-stands c.args.model.now c.in_ok-state.state.run c.in_ok-reports.reports c.in_ok-shown.shown c.in_ok-state.ensures.run
    (c.in_ok-reports.ensures ∙ ap (λ n. replicate n false) c.len.ensures) shown

pub invariant_of-result-clause-ready : goal.invariant_of-result-clause-ready
invariant_of-result-clause-ready c =
    record {
      current = c.in_ok-state.ensures.current;
      each_input = c.in_ok-state.ensures.each_input;
      one_report = ap length c.in_ok-reports.ensures ∙ length-replicate c.len.result false ∙ c.len.ensures;
    }

pub invariant_of-result-clause-delays_kept : goal.invariant_of-result-clause-delays_kept
invariant_of-result-clause-delays_kept c =
    c.in_ok-delays.ensures (output_paths c.args.model.now c.in_ok-state.state.run.inputs c.in_ok-state.state.run.states)

pub at_start-requires-clause-kept : goal.at_start-requires-clause-kept
at_start-requires-clause-kept c =
    c.as_slice-3.ensures ∙ ap (λ (k : ModuleStart). k.kept) c.get-start.ensures ∙ c.requires.known.kept_are
