use Rattle.std.proofs.Common.{ℕ, ◌≤◌, ◌<◌, get_or}
use Rattle.specify_blocks.specs.declared.model.Instance.{Instance}
use Rattle.module_runs.specs.Wiring.{net_count}
use Rattle.module_runs.proofs.wiring.most_nets.Given as goal

-- as many nets as feed any instance so far
abbrev pub invariant-loop-instance : goal.invariant-loop-instance
invariant-loop-instance l = (k : ℕ) (d : Instance) → k < l.instance-index → net_count (get_or l.model.instances k d) ≤ l.most
