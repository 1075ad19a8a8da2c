use Rattle.std.proofs.Common.{List, ◌∙◌, ap, sym, slice_get, filter}
use Rattle.specify_blocks.specs.declared.model.VPath.{VPath}
use Rattle.module_runs.specs.OutputPaths.{leads_to}
use Rattle.module_runs.proofs.OutputPathLemmas.{paths-found}
use Rattle.module_runs.proofs.module_tables.ModuleTables.paths_to.Goals as goal

pub returns-in-Some : goal.returns-in-Some
returns-in-Some c =
    let tables = c.args.self.now in
    let port = c.args.port in
    ap (filter (leads_to port)) c.as_slice.ensures
    ∙ paths-found tables.model.now.paths tables.index.now.paths.lists port c.in-Some.paths.now tables.indexed.by_output
    (ap (λ (xs : List (List VPath)). slice_get xs port) (sym c.as_slice-all.ensures) ∙ sym c.in-Some.ensures)
