use Rattle.std.proofs.Common.{◌≡◌, sym, ◌∙◌, arith}
use Rattle.std.proofs.lemmas.Bool.{eqb-true}
use Rattle.std.specs.Prelude.{vec_len}
use Rattle.timing_arcs.proofs.condition.Plain.of.Goals as goal

pub value-requires : goal.value-requires
value-requires c =
    let none : vec_len c.in_ok-support.support ≡ 0 = eqb-true (vec_len c.in_ok-support.support) 0 (sym c.is_empty.ensures ∙ c.if-not-is_empty.false) in
    (c.bound_is_least.ensures c.args.function.now).1 0 (λ i written. absurd (let found = (c.in_ok-support.ensures.written i).1 written in let below = found.1 in omega arith))
