use Rattle.std.proofs.Common.{◌≡◌, ◌-◌}
use Rattle.grammar_rules.specs.Reading.{repeat, read}
use Rattle.grammar_reader.specs.Words.{begins_as}
use Rattle.vhdl_grammar.specs.VhdlChecks.{procedure_of, check}
use Rattle.vhdl_statements_reader.specs.Checked.{checks_of}
use Rattle.vhdl_statements_reader.proofs.checks.more_checks.Given as goal

abbrev pub invariant-loop-turn : goal.invariant-loop-turn
invariant-loop-turn l =
    repeat (λ _. begins_as procedure_of) (λ found p r. read (check l.scope found p) r) (l._turn-end - l._turn) (checks_of l.found) l.cursor
    ≡ repeat (λ _. begins_as procedure_of) (λ found p r. read (check l.scope found p) r) l._turn-end (checks_of l.initial.found) l.initial.cursor
