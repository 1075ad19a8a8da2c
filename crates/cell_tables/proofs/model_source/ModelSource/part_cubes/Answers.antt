use Rattle.std.proofs.Common.{◌<◌, length, get_or, sym, ◌∙◌, ap, subst, arith}
use Rattle.cell_machine.specs.CellData.{data_of}
use Rattle.udp_tables.specs.declared.parts.Part.TheVariants as part
use Rattle.udp_tables.specs.Conditions.{conditions_of}
use Rattle.udp_tables.specs.CellPrimitives.{IsPart}
use Rattle.cell_tables.specs.declared.cubes.CellCubes.{CellCubes}
use Rattle.cell_tables.specs.Cubes.{cubes_of_part}
use Rattle.cell_tables.proofs.EachBelow.{below-length, below-at}
use Rattle.cell_tables.proofs.model_source.ModelSource.part_cubes.Goals as goal

pub entry-requires : goal.entry-requires
entry-requires c =
    let cell = data_of c.args.self.now.cell.now in
    let within : c.in-Output.output < length cell.outputs = (subst (IsPart cell) c.in-Output.is c.requires).0 in
    let all = ap (λ (cubes : CellCubes). length cubes.outputs) c.args.self.now.are_cubes in
    let long = below-length (λ i. cubes_of_part cell (part.Output i)) (length cell.outputs) in
    omega (arith, all, long, within)

pub returns-in-Output : goal.returns-in-Output
returns-in-Output c =
    let cell = data_of c.args.self.now.cell.now in
    let within : c.in-Output.output < length cell.outputs = (subst (IsPart cell) c.in-Output.is c.requires).0 in
    sym c.entry.ensures.at
    ∙ ap (λ (cubes : CellCubes). get_or cubes.outputs c.in-Output.output c.entry.result.now) c.args.self.now.are_cubes
    ∙ below-at (λ i. cubes_of_part cell (part.Output i)) (length cell.outputs) c.in-Output.output c.entry.result.now within
    ∙ ap (cubes_of_part cell) (sym c.in-Output.is)

pub entry-requires-in-Condition : goal.entry-requires-in-Condition
entry-requires-in-Condition c =
    let cell = data_of c.args.self.now.cell.now in
    let within : c.in-Condition.number < length (conditions_of cell) = subst (IsPart cell) c.in-Condition.is c.requires in
    let all = ap (λ (cubes : CellCubes). length cubes.conditions) c.args.self.now.are_cubes in
    let long = below-length (λ i. cubes_of_part cell (part.Condition i)) (length (conditions_of cell)) in
    omega (arith, all, long, within)

pub returns-in-Condition : goal.returns-in-Condition
returns-in-Condition c =
    let cell = data_of c.args.self.now.cell.now in
    let within : c.in-Condition.number < length (conditions_of cell) = subst (IsPart cell) c.in-Condition.is c.requires in
    sym c.entry-in-Condition.ensures.at
    ∙ ap (λ (cubes : CellCubes). get_or cubes.conditions c.in-Condition.number c.entry-in-Condition.result.now) c.args.self.now.are_cubes
    ∙ below-at (λ i. cubes_of_part cell (part.Condition i)) (length (conditions_of cell)) c.in-Condition.number c.entry-in-Condition.result.now within
    ∙ ap (cubes_of_part cell) (sym c.in-Condition.is)
