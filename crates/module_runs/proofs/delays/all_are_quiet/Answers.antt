use Rattle.module_runs.proofs.OutputPathLemmas.{same-quiet}
use Rattle.module_runs.proofs.delays.all_are_quiet.Goals as goal

pub loop-i-init : goal.loop-i-init
loop-i-init c =
    let v = c.args.values.now in
    same-quiet v.tables.model.now v.inputs.now v.states.now c.args.path c.paths_to-paths.result.now v.tables.model.now.paths
    c.paths_to-paths.ensures
