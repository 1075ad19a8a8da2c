use Rattle.std.proofs.Common.{◌≡◌, ◌+◌, suc, length, ◌∙◌, sym, ap, subst, rules, arith}
use Rattle.trit_cubes.specs.Sets.{AreValuesOf}
use Rattle.cell_machine.specs.Machine.{edge_value}
use Rattle.cell_machine.specs.CellData.{data_of}
use Rattle.cell_machine.specs.CellTrace.{step_at, support_at}
use Rattle.cell_machine.proofs.GroupSteps.{support_at-is}
use Rattle.cell_machine.proofs.group_tables.change_values.Goals as goal

pub returns : goal.returns
returns c =
    let cell = data_of c.args.cell.now in
    let f = edge_value (step_at cell c.args.group) c.args.place in
    let pins : c.len-pins.result ≡ length (support_at cell c.args.group)
    = c.len-pins.ensures ∙ sym (ap length (support_at-is cell c.args.group c.group.result.now c.group.ensures.is)) in
    let places : c.len-pins.result + 2 ≡ suc (suc (length (support_at cell c.args.group))) = omega (arith, pins) in
    let values = c.in_ok-values.ensures.values f
    (record { at_point = λ p long t says. let wide : length p ≡ suc (suc (length (support_at cell c.args.group))) = long ∙ places in search rules }) in
    subst (λ n. AreValuesOf n f c.in_ok-values.values.items) places values
