use Rattle.std.proofs.Common.{◌≡◌, drop}
use Rattle.statetables.specs.Step.{row_of}
use Rattle.statetables.proofs.table.StateTable.step.Given as goal

-- no row so far matches: the first one that does is among the others
abbrev pub invariant-loop-row : goal.invariant-loop-row
invariant-loop-row l = row_of (drop l.row-index l.self.rows) l.node l.before l.after l.s ≡ row_of l.self.rows l.node l.before l.after l.s
