use Rattle.std.proofs.Common.{◌≡◌, ◌-◌, [], codes}
use Rattle.grammar_rules.specs.Reading.{repeat, read}
use Rattle.udp_tables.specs.VerilogRules.{begins}
use Rattle.verilog_drivers.specs.DriverSections.{next_drive_path}
use Rattle.verilog_drivers.proofs.drive_paths.DriverPaths.block.Given as goal

abbrev pub invariant-loop-turn : goal.invariant-loop-turn
invariant-loop-turn l =
    repeat (λ _. begins (codes "(")) (λ paths _ r. read (next_drive_path l.self.ports.now l.self.drives.now paths) r) (l._turn-end - l._turn) l.paths l.cursor
    ≡ repeat (λ _. begins (codes "(")) (λ paths _ r. read (next_drive_path l.self.ports.now l.self.drives.now paths) r) l._turn-end [] l.initial.cursor
