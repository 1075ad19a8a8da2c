use Rattle.std.proofs.Common.{sym, subst}
use Rattle.trit_cubes.specs.Sets.{AreValuesOf}
use Rattle.cell_machine.specs.Machine.{forced_at}
use Rattle.cell_machine.specs.CellData.{data_of}
use Rattle.cell_machine.specs.CellTrace.{step_at}
use Rattle.module_tables.proofs.cell_values.forced_by.Goals as goal

pub returns : goal.returns
returns c =
    let f = forced_at (step_at (data_of c.args.cell.now) c.args.group) in
    c.tabled.ensures f (subst (λ n. AreValuesOf n f c.args.forces.now) (sym c.requires.values) c.requires.forces)
