use Rattle.std.proofs.Common.{◌≡◌, ℕ, ◌<◌, length, Some, slice_get}
use Rattle.specify_blocks.specs.declared.model.VPath.{VPath}
use Rattle.module_runs.specs.Gates.{IsGate}
use Rattle.module_runs.proofs.gates.Gates.of.Given as goal

-- the gates of the paths so far are known
abbrev pub invariant-loop-i : goal.invariant-loop-i
invariant-loop-i l = record {
  seen : (j : ℕ) → j < l.i → (path : VPath) → slice_get l.paths j ≡ Some path → IsGate l.model l.gates path;
  one_each : length l.gates.places ≡ length l.model.instances;
}
