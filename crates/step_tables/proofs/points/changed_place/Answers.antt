use Rattle.std.proofs.Common.{◌≡◌, ◌^◌, sym, ap, ◌∙◌, arith}
use Rattle.std.specs.Prelude.{bit_xor}
use Rattle.std.specs.Int.Count.{count_trailing_zeros}
use Rattle.trit_cubes.specs.Sets.{point_of}
use Rattle.trit_cubes.proofs.PointLemmas.{length-point_of}
use Rattle.step_tables.proofs.PointLemmas.{turned_past}
use Rattle.step_tables.proofs.WordLemmas.{turned_point, not_turned, place_turned}
use Rattle.step_tables.proofs.points.changed_place.Goals as goal

pub returns-then-before-after-clause-one : goal.returns-then-before-after-clause-one
returns-then-before-after-clause-one c =
    let n = c.args.places in (
      omega (arith, c.requires.places),
      ap (point_of n) c.if-before-after.true
          ∙ sym (turned_past n (point_of n c.args.after) (omega (arith, length-point_of n c.args.after))),
    )

pub returns-then-after-turn-clause-one : goal.returns-then-after-turn-clause-one
returns-then-after-turn-clause-one c = (
  omega (arith, c.requires.places, c.if-place-places.false),
  turned_point c.args.places _ c.args.before c.args.after c.if-place-places.false
      (ap (bit_xor c.args.after) (sym c.weight-turn.ensures) ∙ c.if-after-turn.true),
)

pub returns-then-place-places-clause-more : goal.returns-then-place-places-clause-more
returns-then-place-places-clause-more c = λ none place.
    not_turned c.args.places place c.args.before c.args.after c.requires.before c.requires.after c.if-before-after.false (λ p l e.
    let at : count_trailing_zeros 64 (bit_xor c.args.before c.args.after) ≡ p
    = place_turned c.args.before c.args.after p (omega (arith, l, c.requires.places)) e in
    omega (arith, at, l, c.if-place-places.true))

pub returns-else-after-turn-clause-more : goal.returns-else-after-turn-clause-more
returns-else-after-turn-clause-more c = λ none place.
    not_turned c.args.places place c.args.before c.args.after c.requires.before c.requires.after c.if-before-after.false (λ p l e.
    let at : count_trailing_zeros 64 (bit_xor c.args.before c.args.after) ≡ p
    = place_turned c.args.before c.args.after p (omega (arith, l, c.requires.places)) e in
    c.if-after-turn.false (ap (bit_xor c.args.after) (c.weight-turn.ensures ∙ ap (λ k. 2 ^ k) at) ∙ e))
