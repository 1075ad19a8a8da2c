use Rattle.std.proofs.Common.{◌≡◌, true, length, inl, inr, sym, ap, subst, ◌∙◌, arith}
use Rattle.std.proofs.lemmas.Bool.{cases_eq, true≢false}
use Rattle.trit_cubes.specs.Sets.{point_of}
use Rattle.trit_cubes.proofs.PointLemmas.{length-point_of}
use Rattle.cell_machine.specs.CellData.{data_of}
use Rattle.step_tables.specs.GroupPoints.{clock_at}
use Rattle.step_tables.proofs.group_points.low_point.Goals as goal

pub clock_at-requires-clause-point : goal.clock_at-requires-clause-point
clock_at-requires-clause-point c =
    ap length (c.as_slice.ensures ∙ c.point_of-point.ensures) ∙ length-point_of c.args.places c.loop-number.number ∙ c.requires.places

pub loop-number-preserved : goal.loop-number-preserved
loop-number-preserved c = λ k h.
    let clock = clock_at (data_of c.args.cell.now) c.args.group in
    let here : clock (point_of c.args.places c.loop-number.number) ≡ true
    = sym (c.clock_at.ensures ∙ ap clock (c.as_slice.ensures ∙ c.point_of-point.ensures)) ∙ c.if-not-clock_at.false in
    elim (cases_eq k c.loop-number.number) [
      | inl e ↦ subst (λ n. clock (point_of c.args.places n) ≡ true) (sym e) here
      | inr ne ↦ c.loop-number.invariant k (omega (arith, h, ne))
    ]

pub returns : goal.returns
returns c = λ k below low.
    absurd (true≢false (sym (c.loop-number.invariant k (omega (arith, below, c.loop-number-test.false, c.point_count-number-end.ensures.is)))
    ∙ low))
