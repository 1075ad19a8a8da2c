use Rattle.std.proofs.Common.{◌≡◌, drop, ◌++◌, map}
use Rattle.bank_cells.specs.Runs.{shown_member, members_along, members_in}
use Rattle.bank_cells.proofs.runs.add_members.Given as goal

abbrev pub invariant-loop-at : goal.invariant-loop-at
invariant-loop-at l =
    map shown_member l.found.items ++ members_along l.vector l.at (drop l.at l.vector.members)
    ≡ map shown_member l.initial.found.items ++ members_in l.vector
