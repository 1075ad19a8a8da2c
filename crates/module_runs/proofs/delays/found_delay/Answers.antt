use Rattle.std.proofs.Common.{◌<◌, ◌∙◌, ap, length, arith, map}
use Rattle.std.proofs.lemmas.Option.{slice_get-get_or}
use Rattle.cell_machine.specs.Delay.{least, active_delays}
use Rattle.model_traces.specs.PathDelays.{is_between, path_at}
use Rattle.run_parts.proofs.LeastPaths.{least_of-step}
use Rattle.module_runs.proofs.OutputPathLemmas.{same-between}
use Rattle.module_runs.proofs.delays.found_delay.Goals as goal

pub loop-i-init : goal.loop-i-init
loop-i-init c =
    let v = c.args.values.now in
    let m = v.tables.model.now in
    let change = c.args.change in
    record {
      least =
          ap (λ ps. least (active_delays change.from change.to (map (path_at m v.inputs.now v.states.now) ps)))
          (same-between m.ports change.input change.port c.paths_to-paths.result.now m.paths c.paths_to-paths.ensures);
      known = λ quiet path e from' to'. absurd cc;
    }

pub loop-i-preserved : goal.loop-i-preserved
loop-i-preserved c =
    let v = c.args.values.now in
    let m = v.tables.model.now in
    let change = c.args.change in
    let inside : c.loop-i.i < length c.paths_to-paths.result.now = omega arith in
    record {
      least =
          rw c.lesser-best.ensures
          (least_of-step (is_between m.ports change.input change.port) (path_at m v.inputs.now v.states.now) change.from
          change.to c.paths_to-paths.result.now c.loop-i.i _ c.loop-i.best c.path_delay.result
          (slice_get-get_or c.paths_to-paths.result.now c.loop-i.i _ inside) c.path_delay.ensures.delay
          ∙ c.loop-i.invariant.least);
      known = c.path_delay.ensures.known;
    }
