use Rattle.std.proofs.Common.{◌≡◌, ℕ, List, [], ◌∷◌, ◌++◌, cond, take, length}
use Rattle.run_parts.specs.NumberedLists.{AreLists}
use Rattle.run_parts.specs.FedParts.{is_among}
use Rattle.run_parts.proofs.fed_parts.add_nets.Given as goal

-- the place stands in the lists of the inputs among the nets so far
abbrev pub invariant-loop-j : goal.invariant-loop-j
invariant-loop-j g l = record {
  lists :
      (lists : ℕ → List ℕ)
      → AreLists lists l.initial.all.items
      → AreLists (λ n. lists n ++ cond (is_among (g.F.FedPart.input l.ports.list.now) (take l.j l.nets) n) (l.place ∷ []) [])
      l.all.items;
  len : length l.all.items ≡ length l.initial.all.items;
}
