use Rattle.std.proofs.Common.{◌≡◌, ℕ, ◌^◌, ◌++◌, ◌∷◌, [], map, length, sym, ap, ◌∙◌, arith}
use Rattle.std.specs.List.{range_with_len}
use Rattle.std.proofs.lemmas.List.FromFn.{length-map-range_with_len, map-range_with_len_more}
use Rattle.trit_cubes.specs.Sets.{point_of}
use Rattle.trit_cubes.proofs.PointLemmas.{length-point_of}
use Rattle.cell_machine.specs.CellData.{data_of}
use Rattle.step_tables.specs.GroupPoints.{point_at}
use Rattle.step_tables.proofs.group_points.points_by.Goals as goal

pub group_point-requires-clause-low : goal.group_point-requires-clause-low
group_point-requires-clause-low c =
    ap length (c.as_slice.ensures ∙ c.point_of-low.ensures) ∙ length-point_of c.args.places c.args.low ∙ c.requires.places

pub group_point-requires-clause-point : goal.group_point-requires-clause-point
group_point-requires-clause-point c =
    ap length (c.as_slice-in-loop-number.ensures ∙ c.point_of-point.ensures) ∙ length-point_of c.args.places c.loop-number.number ∙ c.requires.places

pub push-requires : goal.push-requires
push-requires c =
    let long : length c.loop-number.points ≡ c.loop-number.number
    = ap length c.loop-number.invariant
    ∙ length-map-range_with_len (λ k. point_at (data_of c.args.cell.now) c.args.group c.point_of-low.result (point_of c.args.places k)) 0
    c.loop-number.number in
    omega (arith, long, c.loop-number-test.true, c.point_count-number-end.ensures.few)

pub returns : goal.returns
returns c =
    let all : c.loop-number.number ≡ 2 ^ c.args.places
    = omega (arith, c.loop-number-test.false, c.loop-number.auto.number-end, c.point_count-number-end.ensures.is) in
    c.loop-number.invariant
    ∙ (λ i. map (λ k. point_at (data_of c.args.cell.now) c.args.group (c.point_of-low.ensures i) (point_of c.args.places k))
    (range_with_len 0 (all i)))

pub loop-number-preserved : goal.loop-number-preserved
loop-number-preserved c =
    let f = λ (k : ℕ). point_at (data_of c.args.cell.now) c.args.group c.point_of-low.result (point_of c.args.places k) in
    let here : c.group_point.result ≡ f c.loop-number.number
    = c.group_point.ensures
    ∙ (λ i. point_at (data_of c.args.cell.now) c.args.group (c.as_slice.ensures i) ((c.as_slice-in-loop-number.ensures ∙ c.point_of-point.ensures) i)) in
    c.push.ensures
    ∙ (λ i. c.loop-number.invariant i ++ here i ∷ [])
    ∙ sym (map-range_with_len_more f 0 c.loop-number.number c.loop-number.number (omega arith))
