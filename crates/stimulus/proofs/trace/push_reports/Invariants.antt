use Rattle.std.proofs.Common.{◌≡◌, ◌+◌, ◌++◌, List, drop}
use Rattle.cell_machine.specs.declared.changes.Change.{Change}
use Rattle.stimulus.specs.TraceLine.{reports_text}
use Rattle.stimulus.proofs.trace.push_reports.Given as goal

-- the text so far, with the reports from here on, is the text with all reports
abbrev pub invariant-loop-check : goal.invariant-loop-check
invariant-loop-check g l =
    (h : List Change) → g.S.TraceSim.stands l.sim h → (l.text.items ++ l.pieces) ++ reports_text (l.check + 1) (drop l.check ((g.S.TraceSim.machine l.sim).line h).reports) ≡ (l.fn.text.items ++ l.fn.pieces) ++ reports_text 1 ((g.S.TraceSim.machine l.sim).line h).reports
