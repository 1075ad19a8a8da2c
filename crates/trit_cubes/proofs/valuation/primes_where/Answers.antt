use Rattle.std.proofs.Common.{length, ◌∙◌, ap}
use Rattle.std.proofs.lemmas.List.{length-map}
use Rattle.trit_cubes.specs.Filling.{same}
use Rattle.trit_cubes.specs.Sets.{has, gives}
use Rattle.trit_cubes.specs.Prime.{prime_list}
use Rattle.trit_cubes.proofs.PointLemmas.{has-value}
use Rattle.trit_cubes.proofs.SplitLemmas.{prime_list-same}
use Rattle.trit_cubes.proofs.valuation.primes_where.Goals as goal

pub primes-requires : goal.primes-requires
primes-requires c =
    record {
      short = c.requires.short;
      entries = ap length (c.deref.ensures.value ∙ c.in_ok-set.ensures) ∙ length-map c.args.values.now (same c.args.value) ∙ c.requires.entries;
    }

pub returns : goal.returns
returns c = λ f are.
    c.in_ok-found.ensures
    ∙ ap (λ t. prime_list c.args.n (has t)) (c.deref.ensures.value ∙ c.in_ok-set.ensures)
    ∙ prime_list-same c.args.n (has _) (gives c.args.value f) (has-value c.args.n f c.args.value c.args.values.now are)
