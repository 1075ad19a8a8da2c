use Rattle.std.proofs.Common.{◌≡◌, ◌-◌}
use Rattle.grammar_rules.specs.Reading.{repeat, read}
use Rattle.vhdl_grammar.specs.VhdlOutputs.{begins_line, line_by}
use Rattle.vhdl_outputs_reader.proofs.lines.more_lines.Given as goal

abbrev pub invariant-loop-turn : goal.invariant-loop-turn
invariant-loop-turn l =
    repeat (begins_line l.scope) (λ found longer r. read (line_by l.scope found longer) r) (l._turn-end - l._turn) l.lines l.cursor
    ≡ repeat (begins_line l.scope) (λ found longer r. read (line_by l.scope found longer) r) l._turn-end l.initial.lines l.initial.cursor
