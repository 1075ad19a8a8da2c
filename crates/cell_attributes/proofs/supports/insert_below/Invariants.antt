use Rattle.std.proofs.Common.{◌≡◌, drop}
use Rattle.std.specs.Prelude.{filter, nat_lt}
use Rattle.bool_functions.specs.Support.{insert_all}
use Rattle.cell_attributes.proofs.supports.insert_below.Given as goal

abbrev pub invariant-loop-i : goal.invariant-loop-i
invariant-loop-i l = insert_all l.found.items (filter (λ i. nat_lt i l.bound) (drop l.i-index l.numbers)) ≡ insert_all l.initial.found.items (filter (λ i. nat_lt i l.bound) l.numbers)
