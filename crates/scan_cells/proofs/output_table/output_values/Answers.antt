use Rattle.std.proofs.Common.{◌≡◌, ℕ, ◌^◌, ◌++◌, ◌∷◌, [], map, length, sym, ap, ◌∙◌, arith}
use Rattle.std.specs.List.{range_with_len}
use Rattle.std.proofs.lemmas.List.FromFn.{length-map-range_with_len, map-range_with_len_more}
use Rattle.trit_cubes.specs.Sets.{point_of}
use Rattle.trit_cubes.proofs.PointLemmas.{length-point_of}
use Rattle.cell_machine.specs.CellData.{data_of}
use Rattle.cell_machine.specs.CellTrace.{output_value_at}
use Rattle.scan_cells.proofs.Halves.{most_points}
use Rattle.scan_cells.proofs.output_table.output_values.Goals as goal

pub output_at-requires-clause-point : goal.output_at-requires-clause-point
output_at-requires-clause-point c =
    ap length (c.as_slice.ensures ∙ c.point_of-point.ensures) ∙ length-point_of c.args.places c.loop-number.number ∙ c.requires.places

pub push-requires : goal.push-requires
push-requires c =
    let long : length c.loop-number.values ≡ c.loop-number.number
    = ap length c.loop-number.invariant
    ∙ length-map-range_with_len (λ k. output_value_at (data_of c.args.cell.now) c.args.output (point_of c.args.places k)) 0
    c.loop-number.number in
    let most = most_points c.args.places 10 c.requires.few in
    omega (arith, long, c.loop-number-test.true, c.point_count-number-end.ensures, most)

pub loop-number-preserved : goal.loop-number-preserved
loop-number-preserved c =
    let f = λ (k : ℕ). output_value_at (data_of c.args.cell.now) c.args.output (point_of c.args.places k) in
    let here : c.output_at.result ≡ f c.loop-number.number
    = c.output_at.ensures ∙ ap (output_value_at (data_of c.args.cell.now) c.args.output) (c.as_slice.ensures ∙ c.point_of-point.ensures) in
    c.push.ensures
    ∙ (λ i. c.loop-number.invariant i ++ here i ∷ [])
    ∙ sym (map-range_with_len_more f 0 c.loop-number.number c.loop-number.number (omega arith))

pub returns : goal.returns
returns c =
    let all : c.loop-number.number ≡ 2 ^ c.args.places
    = omega (arith, c.loop-number-test.false, c.loop-number.auto.number-end, c.point_count-number-end.ensures) in
    c.loop-number.invariant
    ∙ ap (λ n. map (λ k. output_value_at (data_of c.args.cell.now) c.args.output (point_of c.args.places k)) (range_with_len 0 n)) all
