use Rattle.std.proofs.Common.{◌≡◌, ◌+◌, false, slice_index_or, refl, rules}
use Rattle.trit_cubes.specs.Filling.{bit}
use Rattle.trit_cubes.proofs.PackLemmas.{pair-has}
use Rattle.trit_cubes.proofs.word_primes.packed_pair.Goals as goal

pub returns-clause-values : goal.returns-clause-values
returns-clause-values c =
    let zero : c.from-zero.result ≡ bit (slice_index_or c.args.set.now c.args.start false) = search rules in
    let one : c.from-one.result ≡ bit (slice_index_or c.args.set.now (c.args.start + c.args.step) false) = search rules in
    pair-has (slice_index_or c.args.set.now c.args.start false) (slice_index_or c.args.set.now (c.args.start + c.args.step) false)
    c.from-zero.result c.from-one.result c.args.start c.args.step c.args.set.now zero one refl refl
