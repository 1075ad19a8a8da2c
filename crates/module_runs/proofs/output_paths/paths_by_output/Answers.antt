use Rattle.std.proofs.Common.{◌<◌, length, arith}
use Rattle.run_parts.proofs.NumberedListLemmas.{same-lists}
use Rattle.module_runs.proofs.OutputPathLemmas.{one-path}
use Rattle.module_runs.proofs.output_paths.paths_by_output.Goals as goal

pub loop-path-preserved : goal.loop-path-preserved
loop-path-preserved c =
    let paths = c.args.paths.now in
    let i = c.loop-path.path-index in
    let inside : i < length paths = omega arith in
    same-lists c.add.new.all.items _ _ (λ port. one-path paths i _ port inside) (c.in_ok-add.ensures.lists _ c.loop-path.invariant)
