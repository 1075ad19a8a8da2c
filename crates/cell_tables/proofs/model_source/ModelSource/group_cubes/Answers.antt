use Rattle.std.proofs.Common.{length, get_or, sym, ◌∙◌, ap, arith}
use Rattle.cell_machine.specs.CellData.{data_of}
use Rattle.cell_tables.specs.declared.cubes.CellCubes.{CellCubes}
use Rattle.cell_tables.specs.Cubes.{cubes_of_group}
use Rattle.cell_tables.proofs.EachBelow.{below-length, below-at}
use Rattle.cell_tables.proofs.model_source.ModelSource.group_cubes.Goals as goal

pub entry-requires : goal.entry-requires
entry-requires c =
    let cell = c.args.self.now.cell.now in
    let all = ap (λ (cubes : CellCubes). length cubes.groups) c.args.self.now.are_cubes in
    let long = below-length (cubes_of_group (data_of cell)) (length cell.groups) in
    omega (arith, all, long, c.requires)

pub returns : goal.returns
returns c =
    let cell = c.args.self.now.cell.now in
    sym c.entry.ensures.at
    ∙ ap (λ (cubes : CellCubes). get_or cubes.groups c.args.group c.entry.result.now) c.args.self.now.are_cubes
    ∙ below-at (cubes_of_group (data_of cell)) (length cell.groups) c.args.group c.entry.result.now c.requires
