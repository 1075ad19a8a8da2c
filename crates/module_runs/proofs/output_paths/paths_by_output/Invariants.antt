use Rattle.std.proofs.Common.{take}
use Rattle.module_runs.specs.OutputPaths.{AreByOutput}
use Rattle.module_runs.proofs.output_paths.paths_by_output.Given as goal

-- the paths so far stand at their outputs
abbrev pub invariant-loop-path : goal.invariant-loop-path
invariant-loop-path l = AreByOutput (take l.path-index l.paths) l.all.items
