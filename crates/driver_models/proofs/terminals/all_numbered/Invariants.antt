use Rattle.std.proofs.Common.{◌≡◌}
use Rattle.driver_models.specs.Terminals.{all_numbered}
use Rattle.driver_models.proofs.terminals.all_numbered.Given as goal

abbrev pub invariant-loop-i : goal.invariant-loop-i
invariant-loop-i g l = l.names ≡ all_numbered l.word l.i
