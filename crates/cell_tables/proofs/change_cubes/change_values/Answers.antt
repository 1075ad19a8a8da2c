use Rattle.std.proofs.Common.{◌≡◌, ◌*◌, ◌^◌, suc, ◌∙◌, subst, pow-suc, arith}
use Rattle.trit_cubes.specs.Sets.{AreValuesOf}
use Rattle.cell_machine.specs.Machine.{edge_value}
use Rattle.cell_machine.specs.CellData.{data_of}
use Rattle.cell_machine.specs.CellTrace.{step_at}
use Rattle.cell_tables.proofs.NumberedValues.{numbered-more, numbered-all}
use Rattle.cell_tables.proofs.change_cubes.change_values.Goals as goal

pub loop-number-preserved : goal.loop-number-preserved
loop-number-preserved c =
    c.in_ok-push.ensures.items
    ∙ numbered-more (suc (suc c.args.steps.now.places))
    (edge_value (step_at (data_of c.args.steps.now.cell.now) c.args.steps.now.group) c.args.place)
    c.loop-number.number c.loop-number.values.items c.value_at.result c.loop-number.invariant c.value_at.ensures

pub returns : goal.returns
returns c =
    let places = c.args.steps.now.places in
    let f = edge_value (step_at (data_of c.args.steps.now.cell.now) c.args.steps.now.group) c.args.place in
    let wide : 2 ^ suc (suc places) ≡ 4 * 2 ^ places = rw (pow-suc, pow-suc) (omega arith) in
    let all : c.loop-number.number ≡ 2 ^ suc (suc places)
    = omega (arith, wide, c.point_count-points.ensures.is, c.loop-number-test.false, c.loop-number.auto.number-end) in
    subst (λ n. AreValuesOf (suc (suc n)) f c.loop-number.values.items) c.args.steps.now.are_places
    (numbered-all (suc (suc places)) f c.loop-number.number c.loop-number.values.items all c.loop-number.invariant)
