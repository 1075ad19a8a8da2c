use Rattle.std.proofs.Common.{◌≡◌, ◌++◌, map, drop}
use Rattle.core_groups.specs.CoreGroups.{core_statement}
use Rattle.core_groups.proofs.groups.cell_statements.Given as goal

abbrev pub invariant-loop-item : goal.invariant-loop-item
invariant-loop-item l = l.core ++ map core_statement (drop l.item-index l.items) ≡ map core_statement l.items
