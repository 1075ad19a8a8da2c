use Rattle.std.proofs.Common.{◌≡◌, ◌++◌, ◌-◌, filter}
use Rattle.std.specs.List.{range_with_len}
use Rattle.bool_functions.specs.Support.{support_of}
use Rattle.cell_machine.specs.Names.{has}
use Rattle.module_terminals.proofs.supports.support_of.Given as goal

-- the names so far and those among the other numbers are all
abbrev pub invariant-loop-name : goal.invariant-loop-name
invariant-loop-name l =
    l.names ++ filter (has (support_of l.condition)) (range_with_len l.name (l.bound - l.name)) ≡ support_of l.condition
