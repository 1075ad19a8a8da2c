use Rattle.std.proofs.Common.{◌≡◌, ◌-◌}
use Rattle.grammar_rules.specs.Reading.{repeat, read}
use Rattle.grammar_reader.specs.Words.{begins_by}
use Rattle.verilog_grammar.specs.VerilogBlocks.{is_path_start, next_path, paths}
use Rattle.verilog_reader.proofs.paths.paths.Given as goal

abbrev pub invariant-loop-turn : goal.invariant-loop-turn
invariant-loop-turn l =
    repeat (λ _. begins_by is_path_start) (λ found x r. read (next_path l.model found x) r) (l._turn-end - l._turn) l.paths.items l.cursor
    ≡ read (paths l.model) l.initial.cursor
