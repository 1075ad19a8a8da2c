use Rattle.std.proofs.Common.{ℕ, ◌≤◌, ◌<◌, get_or}
use Rattle.process_runs.proofs.process_rooms.most_of.Given as goal

-- as many as any so far has
abbrev pub invariant-loop-part : goal.invariant-loop-part
invariant-loop-part g l = (k : ℕ) (d : _) → k < l.part-index → g.T.Tabled.columns (get_or l.parts k d) ≤ l.most
