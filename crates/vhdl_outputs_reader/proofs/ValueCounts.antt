-- How many tables of outputs values look up.
use Rattle.std.proofs.Common.{◌≡◌, ◌≤◌, ◌<◌, ℕ, ◌^◌, List, length, arith}
use Rattle.std.proofs.lemmas.List.Sums.{count_by-le-length}
use Rattle.vhdl_grammar.specs.declared.scope.Assigned.{Assigned}
use Rattle.vhdl_grammar.specs.VhdlOutputs.{is_lookup, lookups}

-- fewer than there are values
pub lookups_few : (values : List Assigned) (n : ℕ) → n ≡ lookups values → length values < 2 ^ 63 → n < 2 ^ 63
lookups_few values n e few = let most : lookups values ≤ length values = count_by-le-length is_lookup values
    in omega (arith, most)
