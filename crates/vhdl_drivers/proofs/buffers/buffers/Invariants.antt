use Rattle.std.proofs.Common.{◌≡◌, ◌+◌, ◌-◌}
use Rattle.grammar_rules.specs.Reading.{read}
use Rattle.vhdl_drivers.specs.DriverSections.{buffers}
use Rattle.vhdl_drivers.proofs.buffers.buffers.Given as goal

abbrev pub invariant-loop-i : goal.invariant-loop-i
invariant-loop-i l = read (buffers (l.i + 1) (l.count - l.i)) l.cursor ≡ read (buffers 1 l.count) l.initial.cursor
