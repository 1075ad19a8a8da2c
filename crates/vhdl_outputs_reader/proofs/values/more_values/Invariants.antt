use Rattle.std.proofs.Common.{◌≡◌, ◌-◌}
use Rattle.grammar_rules.specs.Reading.{repeat, read}
use Rattle.vhdl_grammar.specs.VhdlOutputs.{begins_value, next_value}
use Rattle.vhdl_outputs_reader.proofs.values.more_values.Given as goal

abbrev pub invariant-loop-turn : goal.invariant-loop-turn
invariant-loop-turn l =
    repeat (begins_value l.scope) (λ found _ r. read (next_value l.scope found) r) (l._turn-end - l._turn) l.values l.cursor
    ≡ repeat (begins_value l.scope) (λ found _ r. read (next_value l.scope found) r) l._turn-end l.initial.values l.initial.cursor
