use Rattle.std.proofs.Common.{◌≡◌, ◌-◌, [], ◌++◌, codes}
use Rattle.grammar_rules.specs.Reading.{repeat, read}
use Rattle.udp_tables.specs.VerilogRules.{begins}
use Rattle.verilog_grammar.specs.VerilogModules.{declared_wire, port_names}
use Rattle.verilog_grammar.specs.SameNames.{HaveSame}
use Rattle.verilog_grammar.proofs.wires.some_wires.Given as goal

abbrev pub invariant-loop-turn : goal.invariant-loop-turn
invariant-loop-turn l = record {
  reads : repeat (λ _. begins (codes "wire")) (λ u _ r. read (declared_wire l.ports u) r) (l._turn-end - l._turn) l.found.items l.cursor
      ≡ repeat (λ _. begins (codes "wire")) (λ u _ r. read (declared_wire l.ports u) r) l._turn-end [] l.initial.cursor;
  named : HaveSame l.found.names (port_names l.ports ++ l.found.items);
}
