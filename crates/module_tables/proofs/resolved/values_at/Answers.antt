use Rattle.std.proofs.Common.{◌≡◌, ℕ, ◌^◌, ◌≤◌, [], ◌∷◌, ◌++◌, map, length, slice_index_or, refl, sym, ap, ◌∙◌, arith}
use Rattle.std.proofs.Math.Pow.{pow_mono}
use Rattle.std.proofs.lemmas.List.{length-append}
use Rattle.std.proofs.lemmas.List.FromFn.{get_or-map-range_with_len, map-range_with_len_more}
use Rattle.std.specs.List.{range_with_len}
use Rattle.trit_cubes.specs.declared.trits.Trit.{Trit}
use Rattle.trit_cubes.specs.declared.trits.Trit.TheVariants.{Unknown}
use Rattle.trit_cubes.specs.Sets.{point_of}
use Rattle.trit_cubes.proofs.PointLemmas.{length-point_of, values-points}
use Rattle.module_tables.proofs.resolved.values_at.Goals as goal

pub push-requires : goal.push-requires
push-requires g c =
    let most : 2 ^ c.args.places ≤ 1024 = pow_mono c.requires.few in
    (omega arith, omega (arith, most, c.loop-number.invariant.0, c.loop-number-test.true, c.loop-number.auto.number-end))

pub loop-number-preserved : goal.loop-number-preserved
loop-number-preserved g c =
    let places = c.args.places in
    let number = c.loop-number.number in (
      omega (arith, ap length c.push.ensures, length-append c.loop-number.values (c.at_number.result ∷ []), c.loop-number.invariant.0),
      λ f gives.
          let value : ℕ → Trit = λ k. f (point_of places k) in
          c.push.ensures
          ∙ ap (λ vs. vs ++ c.at_number.result ∷ []) (c.loop-number.invariant.1 f gives)
          ∙ ap (λ t. map value (range_with_len 0 number) ++ t ∷ [])
          (gives.at_point (point_of places number) (length-point_of places number) c.at_number.result (c.at_number.ensures c.at_number.result refl))
          ∙ sym (map-range_with_len_more value 0 number number (omega arith)),
    )

pub returns : goal.returns
returns g c = λ f gives.
    let places = c.args.places in
    let number = c.loop-number.number in
    let value : ℕ → Trit = λ k. f (point_of places k) in
    let most : 2 ^ places ≤ 1024 = pow_mono c.requires.few in
    let all : number ≡ 2 ^ places = omega (arith, most, c.loop-number-test.false, c.loop-number.auto.number-end) in
    values-points places f c.loop-number.values (c.loop-number.invariant.0 ∙ all)
    (λ j l.
    ap (λ vs. slice_index_or vs j Unknown) (c.loop-number.invariant.1 f gives)
    ∙ get_or-map-range_with_len value 0 number j j Unknown (omega (arith, all, l)) (omega arith))
