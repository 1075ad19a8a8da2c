use Rattle.std.proofs.Common.{◌≡◌, ◌+◌, suc, length, ◌∙◌, subst, rules, arith}
use Rattle.trit_cubes.specs.Sets.{AreValuesOf}
use Rattle.cell_machine.specs.Machine.{edge_value}
use Rattle.cell_machine.specs.CellData.{data_of}
use Rattle.cell_machine.specs.CellTrace.{step_at, support_at}
use Rattle.cell_tables.proofs.GroupPlaces.{pins-counted}
use Rattle.module_tables.proofs.cell_values.edge_values.Goals as goal

pub returns : goal.returns
returns c =
    let d = data_of c.args.cell.now in
    let g = c.args.group in
    let f = edge_value (step_at d g) c.args.place in
    let pins : c.len-pins.result ≡ length (support_at d g) = pins-counted d g _ _ c.len-pins.ensures c.group.ensures.is in
    let places : c.len-pins.result + 2 ≡ suc (suc (length (support_at d g))) = omega (arith, pins) in
    let values = c.values_at.ensures f
    (record { at_point = λ p long t says. let wide : length p ≡ suc (suc (length (support_at d g))) = long ∙ places in search rules }) in
    subst (λ n. AreValuesOf n f c.values_at.result) places values
