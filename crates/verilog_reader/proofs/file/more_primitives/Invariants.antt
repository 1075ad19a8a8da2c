use Rattle.std.proofs.Common.{◌≡◌, ◌-◌, codes}
use Rattle.grammar_rules.specs.Reading.{repeat, read}
use Rattle.udp_tables.specs.VerilogRules.{begins}
use Rattle.verilog_grammar.specs.VerilogText.{next_primitive}
use Rattle.verilog_reader.specs.File.{before_of}
use Rattle.verilog_reader.proofs.file.more_primitives.Given as goal

abbrev pub invariant-loop-turn : goal.invariant-loop-turn
invariant-loop-turn l =
    repeat (λ _. begins (codes "primitive")) (λ more _ r. read (next_primitive more) r) (l._turn-end - l._turn) (before_of l.before) l.cursor
    ≡ repeat (λ _. begins (codes "primitive")) (λ more _ r. read (next_primitive more) r) l._turn-end (before_of l.initial.before) l.initial.cursor
