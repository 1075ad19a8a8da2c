use Rattle.std.proofs.Common.{◌≡◌, ◌-◌}
use Rattle.grammar_rules.specs.Reading.{repeat, read}
use Rattle.grammar_reader.specs.Words.{begins_by}
use Rattle.verilog_grammar.specs.VerilogText.{is_design_start, design, nothing}
use Rattle.verilog_reader.specs.File.{before_of}
use Rattle.verilog_reader.proofs.file.add_designs.Given as goal

abbrev pub invariant-loop-turn : goal.invariant-loop-turn
invariant-loop-turn l =
    repeat (λ _. begins_by is_design_start) (λ before x r. read (design before x) r) (l._turn-end - l._turn) (before_of l.before) l.cursor
    ≡ repeat (λ _. begins_by is_design_start) (λ before x r. read (design before x) r) l._turn-end nothing l.initial.cursor
