use Rattle.std.proofs.Common.{nat_eq, sym, ◌∙◌, ap}
use Rattle.std.specs.List.{list_any}
use Rattle.std.proofs.lemmas.List.Sorted.{IsNonDecreasingBy-from_sort, list_any-IsPermutation}
use Rattle.udp_tables.proofs.cube_index.CubeIndex.of.Goals as goal

pub returns : goal.returns
returns c =
    record {
      same = λ x.
          sym (list_any-IsPermutation (nat_eq x) c.in_ok-numbers.numbers.items c.sort_unstable.new.self.items c.sort_unstable.ensures.permutation)
          ∙ ap (list_any (nat_eq x)) c.in_ok-numbers.ensures;
      ascend = λ i j below within.
          IsNonDecreasingBy-from_sort (λ x. x) c.sort_unstable.new.self.items c.sort_unstable.ensures.sorted i j 0 below within;
    }
