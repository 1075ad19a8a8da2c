use Rattle.std.proofs.Common.{◌≡◌, ◌-◌}
use Rattle.grammar_rules.specs.Reading.{repeat, read}
use Rattle.udp_tables.specs.VerilogPrimitives.{begins_row, next_row}
use Rattle.verilog_udp_reader.proofs.primitives.more_rows.Given as goal

abbrev pub invariant-loop-turn : goal.invariant-loop-turn
invariant-loop-turn l =
    repeat (λ _. begins_row l.sequential) (λ found x r. read (next_row l.sequential l.inputs found x) r) (l._turn-end - l._turn) l.rows.items l.cursor
    ≡ repeat (λ _. begins_row l.sequential) (λ found x r. read (next_row l.sequential l.inputs found x) r) l._turn-end l.initial.rows.items l.initial.cursor
