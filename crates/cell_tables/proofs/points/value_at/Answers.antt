use Rattle.std.proofs.Common.{◌/◌, ◌%◌, ◌==◌, ap, ◌∙◌, arith}
use Rattle.std.proofs.Math.Nat.{mod-lt}
use Rattle.std.proofs.lemmas.Nat.{pow_pos}
use Rattle.trit_cubes.specs.Sets.{point_of}
use Rattle.cell_machine.specs.CellData.{data_of}
use Rattle.cell_machine.specs.CellTrace.{step_at}
use Rattle.step_tables.specs.Turned.{turned}
use Rattle.cell_tables.proofs.EdgeNumbers.{edge-kept, edge-turned}
use Rattle.cell_tables.proofs.points.value_at.Goals as goal

pub inserted-joint-requires : goal.inserted-joint-requires
inserted-joint-requires c = record {
  place = omega (arith, c.requires.place, c.args.steps.now.few);
  others = omega (arith, c.requires.number);
}

pub nonzero_div-state : goal.nonzero_div-state
nonzero_div-state c = rw c.point_count-points.ensures.is (pow_pos c.args.steps.now.places)

pub turned-requires : goal.turned-requires
turned-requires c = rw c.point_count-points.ensures.is (mod-lt c.inserted-joint.result (pow_pos c.args.steps.now.places))

pub turned-requires-2 : goal.turned-requires-2
turned-requires-2 c = rw c.point_count-points.ensures.is (mod-lt c.inserted-joint.result (pow_pos c.args.steps.now.places))

pub returns-then-number-new : goal.returns-then-number-new
returns-then-number-new c =
    let n = c.args.steps.now.places in
    let joint = c.inserted-joint.result in
    let step = step_at (data_of c.args.steps.now.cell.now) c.args.steps.now.group in
    c.turned.ensures
    ∙ ap (λ w. step (turned n (point_of n (joint % w))) (point_of n (joint % w)) (joint / w % 2 == 1)) c.point_count-points.ensures.is
    ∙ edge-kept step n c.args.place c.args.number joint c.requires.place c.if-number-new.true
    (c.inserted-joint.ensures n (omega (arith, c.requires.place)))

pub returns : goal.returns
returns c =
    let n = c.args.steps.now.places in
    let joint = c.inserted-joint.result in
    let step = step_at (data_of c.args.steps.now.cell.now) c.args.steps.now.group in
    c.turned-2.ensures
    ∙ ap (λ w. step (turned c.args.place (point_of n (joint % w))) (point_of n (joint % w)) (joint / w % 2 == 1)) c.point_count-points.ensures.is
    ∙ edge-turned step n c.args.place c.args.number joint c.requires.place c.if-number-new.false
    (c.inserted-joint.ensures n (omega (arith, c.requires.place)))
