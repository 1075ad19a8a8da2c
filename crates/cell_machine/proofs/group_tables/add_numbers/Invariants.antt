use Rattle.std.proofs.Common.{◌≡◌, ◌++◌, take, map}
use Rattle.cell_machine.specs.Inputs.{input_number}
use Rattle.cell_machine.proofs.group_tables.add_numbers.Given as goal

-- the numbers of the pins so far are added
abbrev pub invariant-loop-name : goal.invariant-loop-name
invariant-loop-name l = l.numbers ≡ l.initial.numbers ++ map (input_number l.pins) (take l.name-index l.names)
