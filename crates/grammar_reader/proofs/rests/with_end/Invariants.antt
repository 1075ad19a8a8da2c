use Rattle.std.proofs.Common.{◌≡◌, drop, map}
use Rattle.grammar_rules.specs.Reading.{read}
use Rattle.grammar_reader.specs.Rests.{with_end}
use Rattle.grammar_reader.proofs.rests.with_end.Given as goal

abbrev pub invariant-loop-word : goal.invariant-loop-word
invariant-loop-word g l =
    read (with_end g.L.Language.is_same (map (λ word. word.now) (drop l.word-index l.words)) l.value) l.cursor
    ≡ read (with_end g.L.Language.is_same (map (λ word. word.now) l.words) l.value) l.initial.cursor
