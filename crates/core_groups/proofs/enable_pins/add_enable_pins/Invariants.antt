use Rattle.std.proofs.Common.{◌≡◌, ◌++◌, map, drop}
use Rattle.core_groups.specs.Outputs.{shown}
use Rattle.core_groups.specs.CoreGroups.{enable_pins}
use Rattle.core_groups.proofs.enable_pins.add_enable_pins.Given as goal

-- what is added so far, with the outputs for the others, is all
abbrev pub invariant-loop-i : goal.invariant-loop-i
invariant-loop-i l = l.items ++ enable_pins l.i (map shown (drop l.i l.outputs)) ≡ l.initial.items ++ enable_pins 0 (map shown l.outputs)
