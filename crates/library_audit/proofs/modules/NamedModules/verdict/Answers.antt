use Rattle.std.proofs.Common.{◌∙◌}
use Rattle.cell_machine.specs.CellData.{data_of}
use Rattle.library_audit.proofs.ModuleNames.{verdict_by}
use Rattle.library_audit.proofs.modules.NamedModules.verdict.Goals as goal

pub returns-in-None : goal.returns-in-None
returns-in-None c =
    let named = c.args.self.now in
    verdict_by named.names named.models (data_of c.args.cell.now) _ _ _ _ c.requires.names c.as_slice.ensures c.in_ok-name.ensures c.as_slice-2.ensures c.in-None.ensures

pub returns : goal.returns
returns c =
    let named = c.args.self.now in
    c.verdict_beside.ensures
    ∙ verdict_by named.names named.models (data_of c.args.cell.now) _ _ _ _ c.requires.names c.as_slice.ensures c.in_ok-name.ensures c.as_slice-2.ensures c.in-Some.ensures
