use Rattle.std.proofs.Common.{◌≡◌, ◌^◌, ◌∙◌, subst, arith}
use Rattle.trit_cubes.specs.Sets.{AreValuesOf}
use Rattle.cell_machine.specs.Machine.{forced_at}
use Rattle.cell_machine.specs.CellData.{data_of}
use Rattle.cell_machine.specs.CellTrace.{step_at}
use Rattle.cell_tables.proofs.NumberedValues.{numbered-more, numbered-all}
use Rattle.cell_tables.proofs.group_cubes.forced_values.Goals as goal

pub loop-number-preserved : goal.loop-number-preserved
loop-number-preserved c =
    c.in_ok-push.ensures.items
    ∙ numbered-more c.args.steps.now.places (forced_at (step_at (data_of c.args.steps.now.cell.now) c.args.steps.now.group))
    c.loop-number.number c.loop-number.values.items c.forced.result c.loop-number.invariant c.forced.ensures

pub returns : goal.returns
returns c =
    let f = forced_at (step_at (data_of c.args.steps.now.cell.now) c.args.steps.now.group) in
    let all : c.loop-number.number ≡ 2 ^ c.args.steps.now.places
    = omega (arith, c.point_count-points.ensures.is, c.loop-number-test.false, c.loop-number.auto.number-end) in
    subst (λ n. AreValuesOf n f c.loop-number.values.items) c.args.steps.now.are_places
    (numbered-all c.args.steps.now.places f c.loop-number.number c.loop-number.values.items all c.loop-number.invariant)
