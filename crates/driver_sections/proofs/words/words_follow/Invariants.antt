use Rattle.std.proofs.Common.{◌≡◌, ◌≤◌, length, map, drop}
use Rattle.driver_sections.specs.Fronts.{tokens_from}
use Rattle.driver_sections.specs.Marks.{are_next}
use Rattle.driver_sections.proofs.words.words_follow.Given as goal

abbrev pub invariant-loop-word : goal.invariant-loop-word
invariant-loop-word g l =
    (are_next g.L.Language.is_same (map (λ word. word.now) (drop l.word-index l.words)) (tokens_from g.S.Lexicon.lexis (g.S.TokenState.flag l.before) l.text l.next)
    ≡ are_next g.L.Language.is_same (map (λ word. word.now) l.words) (tokens_from g.S.Lexicon.lexis (g.S.TokenState.flag l.initial.before) l.text l.from))
    × (l.next ≤ length l.text)
