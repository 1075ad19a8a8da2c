use Rattle.std.proofs.Common.{◌≡◌, ◌≤◌, ◌-◌, ◌++◌, length, false}
use Rattle.lexer.specs.Tokens.{scan_of}
use Rattle.driver_sections.specs.Fronts.{tokens_from}
use Rattle.driver_sections.specs.Marks.{ends}
use Rattle.driver_sections.specs.Told.{ending_of}
use Rattle.driver_sections.proofs.ends.all_ends.Given as goal

abbrev pub invariant-loop-behind : goal.invariant-loop-behind
invariant-loop-behind g l =
    (l.found.items ++ ends g.L.Language.is_same (ending_of l.ending) false (tokens_from g.S.Lexicon.lexis (g.S.TokenState.flag l.place.before) l.text l.place.next)
    ≡ ends g.L.Language.is_same (ending_of l.ending) false (scan_of g.S.Lexicon.lexis l.text).0)
    × (l.place.next ≤ length l.text)

abbrev pub decreases-loop-behind : goal.decreases-loop-behind
decreases-loop-behind g l = length l.text - l.place.next
