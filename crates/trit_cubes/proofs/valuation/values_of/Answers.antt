use Rattle.std.proofs.Common.{◌≡◌, ◌+◌, ◌^◌, ◌≤◌, take, vec_len, slice_index_or, refl, ap, ◌∙◌, inl, inr, rules, arith}
use Rattle.std.proofs.Math.Pow.{pow_mono}
use Rattle.std.proofs.lemmas.Bool.{cases_lt}
use Rattle.trit_cubes.specs.declared.trits.Trit.TheVariants.{Unknown}
use Rattle.trit_cubes.specs.Sets.{point_of}
use Rattle.trit_cubes.proofs.PointLemmas.{length-point_of, take-point_of, values-points}
use Rattle.trit_cubes.proofs.valuation.values_of.Goals as goal

pub loop-number-preserved : goal.loop-number-preserved
loop-number-preserved g c =
    let so_far = c.loop-number.invariant in
    let pushed = c.in_ok-push.ensures in
    let places = c.args.places in
    let number = c.loop-number.number in (
      pushed.len ∙ ap (λ n. n + 1) so_far.0,
      λ f gives j l.
          elim (cases_lt j number) [
            | inl below ↦ pushed.by_index.0 j Unknown (omega (arith, so_far.0, below)) ∙ so_far.1 f gives j below
            | inr least ↦
                let here : j ≡ vec_len c.loop-number.values = omega (arith, so_far.0, least, l) in
                let numbered : number ≡ j = omega (arith, least, l) in
                ap (λ k. slice_index_or c.push.new.self.items k Unknown) here ∙ pushed.by_index.1 Unknown refl
                ∙ gives.at_point (point_of places number) (length-point_of places number) _
                (record {
                  shown = _;
                  shows = ap (take places) c.point_of-point.ensures ∙ take-point_of places 10 number c.requires.few;
                  says = record { met = c.function.ensures };
                })
                ∙ ap (λ k. f (point_of places k)) numbered
          ],
    )

pub returns-clause-entries : goal.returns-clause-entries
returns-clause-entries g c =
    let most : 2 ^ c.args.places ≤ 1024 = pow_mono c.requires.few in
    let all : c.loop-number.number ≡ 2 ^ c.args.places = omega (arith, most, c.loop-number-test.false, c.loop-number.auto.number-end) in
    search rules ∙ c.loop-number.invariant.0 ∙ all

pub returns-clause-values : goal.returns-clause-values
returns-clause-values g c = λ f gives.
    let places = c.args.places in
    let most : 2 ^ places ≤ 1024 = pow_mono c.requires.few in
    let all : c.loop-number.number ≡ 2 ^ places = omega (arith, most, c.loop-number-test.false, c.loop-number.auto.number-end) in
    values-points places f c.loop-number.values.items (search rules ∙ c.loop-number.invariant.0 ∙ all)
    (λ j l. c.loop-number.invariant.1 f gives j (omega (arith, all, l)))
