use Rattle.std.proofs.Common.{◌≡◌, ◌+◌, ◌++◌, suc, length, ◌∙◌, ap, arith}
use Rattle.cell_machine.specs.CellData.{data_of}
use Rattle.cell_machine.specs.CellTrace.{support_at, step_at}
use Rattle.udp_tables.specs.Edges.{each_below}
use Rattle.cell_tables.specs.Cubes.{input_cubes}
use Rattle.cell_tables.proofs.group_cubes.change_cubes.Goals as goal

pub loop-place-preserved : goal.loop-place-preserved
loop-place-preserved c =
    let cell = data_of c.args.steps.now.cell.now in
    let g = c.args.steps.now.group in
    let of_input = input_cubes (step_at cell g) (length (support_at cell g)) in
    let p = c.loop-place.place in
    let more : suc p ≡ p + 1 = omega arith in
    c.in_ok-add_cubes_of_input.ensures ∙ ap (λ cubes. cubes ++ of_input p) c.loop-place.invariant ∙ ap (each_below of_input) more
