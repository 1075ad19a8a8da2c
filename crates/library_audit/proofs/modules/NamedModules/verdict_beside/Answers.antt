use Rattle.cell_machine.specs.CellData.{data_of}
use Rattle.library_audit.proofs.ModuleNames.{driver_beside, module_beside}
use Rattle.library_audit.proofs.modules.NamedModules.verdict_beside.Goals as goal

pub returns-then-len-gt0 : goal.returns-then-len-gt0
returns-then-len-gt0 c =
    let there = c.in_ok-model.ensures.lookup in
    driver_beside c.args.self.now.models _ (data_of c.args.cell.now) c.args.number _ _ c.as_slice.ensures there.3.0 there.1 c.len.ensures c.if-len-gt0.true

pub returns : goal.returns
returns c =
    let there = c.in_ok-model.ensures.lookup in
    module_beside c.args.self.now.models _ (data_of c.args.cell.now) c.args.number _ _ _ _ c.as_slice.ensures there.3.0 there.1 c.len.ensures c.if-len-gt0.false
    c.get-2.ensures c.audit.ensures
