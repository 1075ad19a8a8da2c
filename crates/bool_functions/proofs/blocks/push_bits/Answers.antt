use Rattle.std.proofs.Common.{◌++◌, ◌-◌, ◌+◌, ◌/◌, ◌%◌, ◌==◌, ◌∷◌, [], List, Bool, sym, ap, ◌∙◌, append_assoc}
use Rattle.bool_functions.specs.Block.{bits_of}
use Rattle.bool_functions.proofs.WordLemmas.{next_bit}
use Rattle.bool_functions.proofs.blocks.push_bits.Goals as goal

pub loop-at-preserved : goal.loop-at-preserved
loop-at-preserved c =
    let values : List Bool = c.loop-at.values.items in
    let later : List Bool = bits_of (c.args.count - (c.loop-at.at + 1)) (c.loop-at.rest / 2) in
    ap (λ bs. bs ++ later) c.in_ok-push.ensures.items
    ∙ append_assoc values ((c.loop-at.rest % 2 == 1) ∷ []) later
    ∙ ap (λ bs. values ++ bs) (sym (next_bit c.loop-at.at c.args.count c.loop-at.rest c.loop-at-test.true))
    ∙ c.loop-at.invariant
