use Rattle.std.proofs.Common.{◌+◌, ◌*◌, ◌≡◌, false, slice_index_or, ap, ◌∙◌, arith}
use Rattle.trit_cubes.specs.Filling.{number}
use Rattle.trit_cubes.specs.Sets.{has}
use Rattle.trit_cubes.proofs.InWordLemmas.{added-all}
use Rattle.trit_cubes.proofs.word_primes.primes_by_word.Goals as goal

pub returns : goal.returns
returns c =
    added-all c.args.n c.packed-word.result (has c.args.set.now) _ _ _ c.in_ok-found.ensures.items c.empty.ensures c.in_ok-add_primes.ensures
    (λ p e.
    let at : 0 + 1 * number p ≡ number p = omega arith in
    c.packed-word.ensures.values p e ∙ ap (λ k. slice_index_or c.args.set.now k false) at)
