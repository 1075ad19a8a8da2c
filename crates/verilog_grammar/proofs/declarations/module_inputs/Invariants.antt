use Rattle.std.proofs.Common.{◌≡◌, ◌-◌, codes}
use Rattle.grammar_rules.specs.Reading.{repeat, read}
use Rattle.udp_tables.specs.VerilogRules.{begins}
use Rattle.verilog_grammar.specs.VerilogModules.{declared_input}
use Rattle.verilog_grammar.specs.Headers.{inputs_of}
use Rattle.verilog_grammar.proofs.declarations.module_inputs.Given as goal

abbrev pub invariant-loop-turn : goal.invariant-loop-turn
invariant-loop-turn l =
    repeat (λ _. begins (codes "input")) (λ found _ r. read (declared_input found) r) (l._turn-end - l._turn) (inputs_of l.found) l.cursor
    ≡ repeat (λ _. begins (codes "input")) (λ found _ r. read (declared_input found) r) l._turn-end (inputs_of l.initial.found) l.initial.cursor
