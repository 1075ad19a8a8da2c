use Rattle.std.proofs.Common.{◌≡◌, false, IfOk, length, subst, sym, ◌∙◌, ap}
use Rattle.std.proofs.lemmas.List.{length-replicate}
use Rattle.trit_cubes.specs.declared.trits.Trit.TheVariants.{Unknown}
use Rattle.cell_machine.specs.CellData.{data_of}
use Rattle.udp_tables.specs.declared.table.Udp.{Udp}
use Rattle.udp_tables.specs.CellPrimitives.{primitive_name, part_places}
use Rattle.cell_tables.specs.declared.cubes.FunctionCubes.{FunctionCubes}
use Rattle.cell_tables.proofs.NamedPrimitives.{named_as}
use Rattle.cell_tables.proofs.PartLemmas.{part_primitive-is}
use Rattle.cell_tables.proofs.cell_primitives.part_udp.Goals as goal

pub returns : goal.returns
returns c =
    let cell = data_of c.args.from.now.cell.now in
    let name = c.in_ok-name.ensures ∙ ap (primitive_name cell.number) c.part_number.ensures in
    let places =
    c.len-inputs.ensures.value ∙ ap (λ (cubes : FunctionCubes). length cubes.free) c.part_cubes.ensures ∙ length-replicate (part_places cell c.args.part) Unknown in
    subst (λ (wanted : Udp). IfOk c.named_primitive.result (λ udp. udp ≡ wanted)) (sym (part_primitive-is cell c.args.part))
    (named_as c.named_primitive.result false name places c.in_ok-rows.ensures c.named_primitive.ensures)
