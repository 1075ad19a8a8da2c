use Rattle.std.proofs.Common.{◌≡◌, ◌-◌, ◌≤◌, length}
use Rattle.driver_sections.specs.Fronts.{behind_gap}
use Rattle.driver_sections.proofs.fronts.behind_separators.Given as goal

abbrev pub invariant-loop-at : goal.invariant-loop-at
invariant-loop-at g l =
    (behind_gap g.L.Lexicon.lexis l.text l.at ≡ behind_gap g.L.Lexicon.lexis l.text l.from) × (l.at ≤ length l.text)

abbrev pub decreases-loop-at : goal.decreases-loop-at
decreases-loop-at g l = length l.text - l.at
