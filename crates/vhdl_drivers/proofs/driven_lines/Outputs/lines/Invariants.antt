use Rattle.std.proofs.Common.{◌≡◌, [], drop}
use Rattle.grammar_rules.specs.Reading.{read}
use Rattle.vhdl_drivers.specs.DriverSections.{driven_lines}
use Rattle.vhdl_drivers.proofs.driven_lines.Outputs.lines.Given as goal

abbrev pub invariant-loop-number : goal.invariant-loop-number
invariant-loop-number l =
    read (driven_lines l.self.ports.now l.self.glitches.now l.number (drop l.number l.names) l.found) l.cursor
    ≡ read (driven_lines l.self.ports.now l.self.glitches.now 0 l.names []) l.initial.cursor
