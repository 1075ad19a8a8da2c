use Rattle.std.proofs.Common.{◌≡◌, ◌++◌, true, drop}
use Rattle.liberty_groups.specs.Writing.{values_text}
use Rattle.group_writer.proofs.writer.push_values.Given as goal

abbrev pub invariant-loop-value : goal.invariant-loop-value
invariant-loop-value l =
    l.out.items ++ values_text l.first (drop l.value-index l.values) ≡ l.fn.out.items ++ values_text true l.values
