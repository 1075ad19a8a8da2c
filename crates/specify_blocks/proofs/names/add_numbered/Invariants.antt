use Rattle.std.proofs.Common.{◌≡◌, ◌++◌}
use Rattle.specify_blocks.specs.Names.{numbered}
use Rattle.specify_blocks.proofs.names.add_numbered.Given as goal

abbrev pub invariant-loop-number : goal.invariant-loop-number
invariant-loop-number l = l.names ≡ l.initial.names ++ numbered l.word l.number
