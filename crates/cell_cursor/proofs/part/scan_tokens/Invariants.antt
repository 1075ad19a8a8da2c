use Rattle.std.proofs.Common.{◌-◌, length}
use Rattle.cell_cursor.proofs.Stretches.{Passed}
use Rattle.cell_cursor.proofs.part.scan_tokens.Given as goal

abbrev pub invariant-loop-count : goal.invariant-loop-count
invariant-loop-count l = Passed l.place l.initial.scanner.tokens.items l.initial.scanner.mode l.at l.more l.count l.scanner.tokens.items l.scanner.mode l.open

abbrev pub decreases-loop-count : goal.decreases-loop-count
decreases-loop-count l = length l.more - l.count
