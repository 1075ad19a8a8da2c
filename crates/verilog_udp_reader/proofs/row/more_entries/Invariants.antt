use Rattle.std.proofs.Common.{◌≡◌, ◌-◌}
use Rattle.grammar_rules.specs.Reading.{repeat, read}
use Rattle.udp_tables.specs.VerilogPrimitives.{begins_next_entry, next_entry}
use Rattle.verilog_udp_reader.proofs.row.more_entries.Given as goal

abbrev pub invariant-loop-turn : goal.invariant-loop-turn
invariant-loop-turn l =
    repeat (begins_next_entry l.sequential) (λ found x r. read (next_entry found x) r) (l._turn-end - l._turn) l.entries l.cursor
    ≡ repeat (begins_next_entry l.sequential) (λ found x r. read (next_entry found x) r) l._turn-end l.initial.entries l.initial.cursor
