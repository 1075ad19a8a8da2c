use Rattle.std.proofs.Common.{◌∙◌, ap, sym, subst, length, IsTrue}
use Rattle.std.proofs.lemmas.List.{length-replicate}
use Rattle.trit_cubes.specs.declared.trits.Trit.TheVariants.{Unknown}
use Rattle.model_traces.specs.declared.module_run.ModuleRun.{ModuleRun}
use Rattle.module_runs.specs.Wiring.{is_wired}
use Rattle.module_runs.specs.KeptValues.{kept_values}
use Rattle.module_runs.proofs.module_run.ModuleState.at_start.Goals as goal

pub returns-clause-current : goal.returns-clause-current
returns-clause-current c =
    let m = c.args.model.now in
    record {
      wired =
          subst (λ n. IsTrue (is_wired n m)) (sym (ap length c.in_ok-room.ensures ∙ length-replicate c.most_nets.result Unknown))
          c.most_nets.ensures;
      kept_are =
          c.in_ok-kept.ensures ∙ c.requires.kept
          ∙ ap (λ (r : ModuleRun). kept_values m r.inputs r.states) (sym c.in_ok-run.ensures.run);
      one_each = c.in_ok-run.ensures.one_each;
    }
