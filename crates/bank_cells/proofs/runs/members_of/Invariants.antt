use Rattle.std.proofs.Common.{◌≡◌, drop, ◌++◌, map}
use Rattle.bank_cells.specs.Runs.{shown_member, members_of}
use Rattle.bank_cells.proofs.runs.members_of.Given as goal

abbrev pub invariant-loop-vector : goal.invariant-loop-vector
invariant-loop-vector l =
    map shown_member l.found.items ++ members_of (drop l.vector-index l.several) ≡ members_of l.several
