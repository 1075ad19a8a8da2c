use Rattle.std.proofs.Common.{◌≡◌, ◌+◌, ◌*◌, ◌-◌, ◌%◌, ◌^◌, cond, ap, ◌∙◌, arith}
use Rattle.std.proofs.Math.Nat.{mod-le}
use Rattle.std.proofs.lemmas.Nat.{pow_pos}
use Rattle.cell_tables.proofs.EdgeNumbers.{point_of-inserted}
use Rattle.cell_tables.proofs.points.inserted.Goals as goal

pub nonzero_rem-result : goal.nonzero_rem-result
nonzero_rem-result c = rw c.point_count-weight.ensures.is (pow_pos c.args.place)

pub overflow_sub-result : goal.overflow_sub-result
overflow_sub-result c = omega (arith, mod-le c.args.others c.point_count-weight.result)

pub returns : goal.returns
returns c = λ n l.
    let weight = c.point_count-weight.result in
    let low = mod-le c.args.others weight in
    let own : c.weighed.result ≡ cond c.args.value (2 ^ c.args.place) 0
    = c.weighed.ensures ∙ ap (λ w. cond c.args.value w 0) c.point_count-weight.ensures.is in
    let part : c.args.others % weight ≡ c.args.others % 2 ^ c.args.place
    = ap (λ w. c.args.others % w) c.point_count-weight.ensures.is in
    point_of-inserted n c.args.place c.args.others (2 * c.args.others + c.weighed.result - c.args.others % weight) c.args.value l
    (omega (arith, low, own, part))
