use Rattle.std.proofs.Common.{◌≡◌, ◌+◌, length}
use Rattle.std.specs.Option.{option_copied, option_map, option_map_or}
use Rattle.wave_reports.specs.Pieces.{pieces_left}
use Rattle.wave_reports.specs.Traces.{seen_input}
use Rattle.wave_reports.specs.Sections.{drawn, with_signs}
use Rattle.wave_reports.proofs.sections.Section.add_signs.Given as goal

-- the words that are left lead to what all words lead to
abbrev pub invariant-loop-rest : goal.invariant-loop-rest
invariant-loop-rest l =
    with_signs (drawn l.self) l.line l.at l.trace.tag (option_map seen_input l.trace.change) (pieces_left 32 (option_copied l.rest))
    ≡ with_signs (drawn l.fn.self) l.line l.at l.trace.tag (option_map seen_input l.trace.change) (pieces_left 32 (option_copied l.fn.trace.words))

-- each turn leaves less of the words
abbrev pub decreases-loop-rest : goal.decreases-loop-rest
decreases-loop-rest l = option_map_or (λ text. 1 + length text.now) l.rest 0
