use Rattle.std.proofs.Common.{◌≡◌, subst, ap, ◌∙◌, IfOk}
use Rattle.std.specs.Option.{option_map}
use Rattle.cell_machine.specs.CellData.{data_of}
use Rattle.scan_cells.specs.TestGroup.{view_group}
use Rattle.scan_cells.specs.Views.{view_data}
use Rattle.scan_cells.specs.Functional.{view_by, read_group}
use Rattle.scan_cells.proofs.functional.functional_cell.Goals as goal

pub returns-clause-is : goal.returns-clause-is
returns-clause-is c =
    subst
    (λ g. IfOk c.view_of.result (λ view. option_map view_data view ≡ view_by (data_of c.args.cell.now) g (read_group c.args.cell.now.number g)))
    (c.in_ok-group.ensures ∙ ap (λ name. view_group name c.args.test.now) c.as_slice.ensures) c.view_of.ensures.is
