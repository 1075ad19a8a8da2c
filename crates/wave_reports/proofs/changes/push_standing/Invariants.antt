use Rattle.std.proofs.Common.{◌≡◌, ◌++◌, None}
use Rattle.wave_reports.specs.Changes.{changes_text}
use Rattle.wave_reports.proofs.changes.push_standing.Given as goal

-- the text so far, with what is left of the changes, is the text with all changes
abbrev pub invariant-loop-moment : goal.invariant-loop-moment
invariant-loop-moment l =
    l.text.items ++ changes_text l.number l.section.keys l.latest.entries l.last l.moment-iterator
    ≡ l.fn.text.items ++ changes_text l.number l.section.keys l.fn.latest.entries None l.section.changes.entries
