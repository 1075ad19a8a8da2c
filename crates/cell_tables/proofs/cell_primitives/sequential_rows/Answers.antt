use Rattle.std.proofs.Common.{length, ◌∙◌, ap}
use Rattle.trit_cubes.specs.declared.trits.Trit.TheVariants.{Unknown}
use Rattle.cell_machine.specs.CellData.{data_of}
use Rattle.cell_machine.specs.CellTrace.{support_at, step_at}
use Rattle.udp_tables.specs.Tables.{or_row}
use Rattle.udp_tables.specs.Sequential.{state_row, compact_rows}
use Rattle.cell_tables.specs.declared.cubes.GroupCubes.{GroupCubes}
use Rattle.cell_tables.proofs.cell_primitives.sequential_rows.Goals as goal

pub returns : goal.returns
returns c =
    let cell = data_of c.args.from.now.cell.now in
    let n = length (support_at cell c.args.group) in
    let step = step_at cell c.args.group in
    let free = ap (λ (cubes : GroupCubes). cubes.forced.free) c.group_cubes.ensures in
    c.in_ok-rows.ensures
    ∙ (λ i. or_row (state_row c.has_notifier.result Unknown (free i)) (c.in_ok-decisive.ensures i))
    ∙ ap (λ checks. compact_rows checks n step) c.has_notifier.ensures
