use Rattle.std.proofs.Common.{◌≡◌, ℕ, ◌*◌, ◌++◌, ◌∷◌, [], map, length, sym, ap, ◌∙◌, arith}
use Rattle.std.specs.List.{range_with_len}
use Rattle.std.proofs.lemmas.List.FromFn.{length-map-range_with_len, map-range_with_len_more}
use Rattle.trit_cubes.specs.Filling.{number}
use Rattle.scan_cells.specs.Weights.{weighed}
use Rattle.scan_cells.proofs.numbering.numbers_of.Goals as goal

pub push-requires : goal.push-requires
push-requires c =
    let long : length c.loop-k.numbers ≡ c.loop-k.k
    = ap length c.loop-k.invariant
    ∙ length-map-range_with_len (λ k. number (weighed c.args.weights.now (c.args.unit * k))) 0 c.loop-k.k in
    omega (arith, long, c.loop-k-test.true, c.requires.count)

pub loop-k-preserved : goal.loop-k-preserved
loop-k-preserved c =
    let f = λ (k : ℕ). number (weighed c.args.weights.now (c.args.unit * k)) in
    c.push.ensures
    ∙ (λ i. c.loop-k.invariant i ++ c.number_at.ensures.is i ∷ [])
    ∙ sym (map-range_with_len_more f 0 c.loop-k.k c.loop-k.k (omega arith))

pub returns : goal.returns
returns c =
    let all : c.loop-k.k ≡ c.args.count = omega (arith, c.loop-k-test.false, c.loop-k.auto.k-end) in
    c.loop-k.invariant
    ∙ ap (λ n. map (λ k. number (weighed c.args.weights.now (c.args.unit * k))) (range_with_len 0 n)) all
