use Rattle.std.proofs.Common.{◌≡◌, ◌-◌}
use Rattle.grammar_rules.specs.Reading.{repeat, read}
use Rattle.grammar_reader.specs.Words.{begins_as}
use Rattle.verilog_grammar.specs.VerilogBlocks.{check_of, next_check, checks}
use Rattle.verilog_reader.proofs.checks.checks.Given as goal

abbrev pub invariant-loop-turn : goal.invariant-loop-turn
invariant-loop-turn l =
    repeat (λ _. begins_as check_of) (λ found kind r. read (next_check l.model found kind) r) (l._turn-end - l._turn) l.checks.items l.cursor
    ≡ read (checks l.model) l.initial.cursor
