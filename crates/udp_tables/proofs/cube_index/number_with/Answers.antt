use Rattle.std.proofs.Common.{◌≡◌, ◌+◌, ◌-◌, ◌*◌, ◌≤◌, length, drop, ◌∙◌, ap, arith}
use Rattle.std.proofs.lemmas.List.{length-drop}
use Rattle.udp_tables.specs.Edges.{with_last}
use Rattle.udp_tables.specs.Pairs.{number_of}
use Rattle.udp_tables.proofs.NumberLemmas.{digit-lt, number-below, length-with, number-last, number-more}
use Rattle.udp_tables.proofs.cube_index.number_with.Goals as goal

pub loop-left-init : goal.loop-left-init
loop-left-init c = (
  omega (arith, c.len-left.ensures.value, c.requires),
  c.digit-number.ensures
      ∙ number-last c.args.state c.args.cube.now (c.len-left.result - 1) (omega (arith, c.len-left.ensures.value, c.requires)),
)

pub place-requires : goal.place-requires
place-requires c = omega (arith, c.loop-left.invariant.0, c.loop-left-test.true)

pub overflow_mul-number : goal.overflow_mul-number
overflow_mul-number c =
    let cube = with_last c.args.state c.args.cube.now in
    let short : length (drop c.loop-left.left cube) ≤ 10
    = omega (arith, length-drop c.loop-left.left cube, length-with c.args.state c.args.cube.now, c.len-left.ensures.value, c.len-left.ensures.short) in
    omega (arith, number-below (drop c.loop-left.left cube) short, c.loop-left.invariant.1)

pub overflow_add-number : goal.overflow_add-number
overflow_add-number c =
    let cube = with_last c.args.state c.args.cube.now in
    let short : length (drop c.loop-left.left cube) ≤ 10
    = omega (arith, length-drop c.loop-left.left cube, length-with c.args.state c.args.cube.now, c.len-left.ensures.value, c.len-left.ensures.short) in
    omega (arith, number-below (drop c.loop-left.left cube) short, c.loop-left.invariant.1, c.digit.ensures, digit-lt c.place.result)

pub loop-left-preserved : goal.loop-left-preserved
loop-left-preserved c =
    let cube = with_last c.args.state c.args.cube.now in
    let next : c.loop-left.left ≡ c.loop-left.left - 1 + 1 = omega (arith, c.loop-left-test.true) in
    let behind : c.loop-left.number ≡ number_of (drop (c.loop-left.left - 1 + 1) cube)
    = c.loop-left.invariant.1 ∙ ap (λ k. number_of (drop k cube)) next in (
      omega (arith, c.loop-left.invariant.0, c.loop-left-test.true),
      (λ i. c.digit.ensures i + 4 * behind i)
          ∙ number-more c.args.state c.args.cube.now (c.loop-left.left - 1) c.place.result
          (omega (arith, c.loop-left.invariant.0, c.loop-left-test.true)) c.place.ensures,
    )

pub returns : goal.returns
returns c =
    let none : c.loop-left.left ≡ 0 = omega (arith, c.loop-left-test.false) in
    c.loop-left.invariant.1 ∙ ap (λ k. number_of (drop k (with_last c.args.state c.args.cube.now))) none
