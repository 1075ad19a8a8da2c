use Rattle.std.proofs.Common.{◌≡◌, ◌++◌, length, reverse}
use Rattle.vhdl_declarations_reader.specs.vhdl_grammar.VhdlText.{values_with}
use Rattle.vhdl_reader.proofs.joined.values_with.Given as goal

abbrev pub invariant-loop-next : goal.invariant-loop-next
invariant-loop-next l = l.values ++ values_with (reverse l.tables_left) (reverse l.assigned_left) ≡ values_with (reverse l.initial.tables_left) (reverse l.initial.assigned_left)

abbrev pub decreases-loop-next : goal.decreases-loop-next
decreases-loop-next l = length l.assigned_left
