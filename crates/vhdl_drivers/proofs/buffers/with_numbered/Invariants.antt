use Rattle.std.proofs.Common.{◌≡◌, ◌++◌}
use Rattle.driver_models.specs.Terminals.{all_numbered}
use Rattle.vhdl_drivers.proofs.buffers.with_numbered.Given as goal

abbrev pub invariant-loop-i : goal.invariant-loop-i
invariant-loop-i l = l.more ≡ l.fn.names ++ all_numbered l.word l.i
