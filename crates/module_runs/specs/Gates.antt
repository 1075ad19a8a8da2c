-- The gates of a module's paths.
use Rattle.std.specs.Prelude.{◌≡◌, ℕ, Bool, true, false, ◌&&◌, List, Some, slice_get}
use Rattle.trit_cubes.specs.declared.trits.Trit.{Trit}
use Rattle.cell_machine.specs.Each.{each}
use Rattle.cell_machine.specs.Outputs.{is_zero}
use Rattle.specify_blocks.specs.declared.model.VNet.TheVariants as net
use Rattle.specify_blocks.specs.declared.model.Gate.TheVariants as gate
use Rattle.specify_blocks.specs.declared.model.VPath.{VPath}
use Rattle.specify_blocks.specs.declared.model.Instance.{Instance}
use Rattle.specify_blocks.specs.declared.model.VModule.{VModule}
use Rattle.specify_blocks.specs.Nets.{has_state}
use Rattle.model_traces.specs.NetValues.{driver}
use Rattle.module_runs.specs.declared.gates.Gates.{Gates}

-- The instance that drives the net of an `if` path, where there is one, is known to drive a gate; where no gate is known to
-- be stateful, it has no state.
pub record IsDriven (m : VModule) (gates : Gates) (place : ℕ) (x : Instance) : Type 0 where
  pub marked : slice_get gates.places place ≡ Some true
  pub steady : gates.stateful ≡ false → has_state m.udps x ≡ false

abbrev pub IsGate : VModule → Gates → VPath → Type 0
IsGate m gates path =
    (wire place : ℕ) (x : Instance)
    → path.gate ≡ gate.If wire → driver m.instances (net.Wire wire) ≡ Some place → slice_get m.instances place ≡ Some x
    → IsDriven m gates place x

-- the same of each path
abbrev pub AreGates : VModule → Gates → Type 0
AreGates m gates = (i : ℕ) (path : VPath) → slice_get m.paths i ≡ Some path → IsGate m gates path

-- whether a value is 0 and that of a gate
abbrev pub gate_zero : Bool → Trit → Bool
gate_zero gate value = gate && is_zero value

-- which of the values that instances drive are 0 and those of gates
abbrev pub gate_zeros : List Bool → List Trit → List Bool
gate_zeros places kept = each gate_zero places kept
