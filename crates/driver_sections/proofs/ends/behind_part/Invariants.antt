use Rattle.std.proofs.Common.{◌≡◌, ◌≤◌, ◌-◌, length, false}
use Rattle.driver_sections.specs.Fronts.{tokens_from}
use Rattle.driver_sections.specs.Marks.{ends}
use Rattle.driver_sections.specs.Told.{ending_of}
use Rattle.driver_sections.proofs.ends.behind_part.Given as goal

abbrev pub invariant-loop-token : goal.invariant-loop-token
invariant-loop-token g l =
    (ends g.L.Language.is_same (ending_of l.ending) l.ended (tokens_from g.S.Lexicon.lexis (g.S.TokenState.flag l.before) l.text l.next)
    ≡ ends g.L.Language.is_same (ending_of l.ending) false (tokens_from g.S.Lexicon.lexis (g.S.TokenState.flag l.fn.from.before) l.text l.fn.from.next))
    × (l.next ≤ length l.text) × (l.fn.from.next ≤ l.next)

abbrev pub decreases-loop-token : goal.decreases-loop-token
decreases-loop-token g l = length l.text - l.next
