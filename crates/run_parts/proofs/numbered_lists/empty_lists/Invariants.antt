use Rattle.std.proofs.Common.{◌≡◌, [], length}
use Rattle.run_parts.specs.NumberedLists.{AreLists}
use Rattle.run_parts.proofs.numbered_lists.empty_lists.Given as goal

-- the lists so far have no entry
abbrev pub invariant-loop : goal.invariant-loop
invariant-loop g l = record {
  lists : AreLists (λ _. []) l.all.items;
  len : length l.all.items ≡ l.counter;
}
