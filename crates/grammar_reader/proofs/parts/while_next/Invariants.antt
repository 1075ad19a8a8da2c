use Rattle.std.proofs.Common.{◌≡◌, ◌-◌}
use Rattle.grammar_rules.specs.Reading.{repeat}
use Rattle.grammar_reader.specs.Words.{begins}
use Rattle.grammar_reader.proofs.parts.while_next.Given as goal

abbrev pub invariant-loop-turn : goal.invariant-loop-turn
invariant-loop-turn g l =
    repeat (λ _. begins g.L.Language.is_same l.word) (λ u _ s. g.P.RepeatedPart.reading l.part u s) (l._turn-end - l._turn) l.found l.cursor
    ≡ repeat (λ _. begins g.L.Language.is_same l.word) (λ u _ s. g.P.RepeatedPart.reading l.part u s) l._turn-end l.initial.found l.initial.cursor
