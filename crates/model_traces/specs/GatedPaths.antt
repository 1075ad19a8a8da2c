-- The path entries of an entity as delays. (IEEE 1076.4-2000, VitalPathDelay01.)
use Rattle.std.specs.Prelude.{ℕ, Bool, true, not, List, map, filter, nat_eq, Option, Some, None, if◌then◌else◌}
use Rattle.std.specs.List.{list_all}
use Rattle.trit_cubes.specs.declared.trits.Trit.{Trit}
use Rattle.trit_cubes.specs.Filling.{same}
use Rattle.cell_machine.specs.Delay.{Path, least_delay}
use Rattle.cell_machine.specs.Outputs.{is_zero}
use Rattle.udp_tables.specs.declared.models.VPort.{VPort}
use Rattle.vital_models.specs.declared.model.HGate.{HGate}
use Rattle.vital_models.specs.declared.model.HGate.TheVariants as gate
use Rattle.vital_models.specs.declared.model.HPath.{HPath}
use Rattle.vital_models.specs.declared.model.VOutput.{VOutput}
use Rattle.vital_models.specs.declared.model.VEntity.{VEntity}
use Rattle.run_parts.specs.PortNumbers.{input_number}
use Rattle.model_traces.specs.ProcessValues.{condition_value}

-- whether all these conditions are 0
abbrev pub all_zero : VEntity → List Trit → List ℕ → Bool
all_zero e inputs is = list_all (λ i. is_zero (condition_value e inputs i)) is

-- whether a path's condition holds: there is none, its condition is not 0, or all its conditions are 0
abbrev pub gate_holds : VEntity → List Trit → HGate → Bool
gate_holds e inputs gate.Always = true
gate_holds e inputs (gate.NotZero i) = not (is_zero (condition_value e inputs i))
gate_holds e inputs (gate.AllZero is) = all_zero e inputs is

-- a path with its delays, at values of the inputs
abbrev pub path_at : VEntity → List Trit → HPath → Path
path_at e inputs path = record { active = gate_holds e inputs path.gate; rise = path.rise; fall = path.fall }

-- whether a path begins at this input
abbrev pub begins_at : List VPort → ℕ → HPath → Bool
begins_at ports input path = nat_eq (input_number ports path.from) input

-- the paths from an input to an output
abbrev pub paths_from : VEntity → List Trit → ℕ → VOutput → List Path
paths_from e inputs input output = map (path_at e inputs) (filter (begins_at e.ports input) output.paths)

-- the delay of an output that goes from a to b at a change of an input, where it does change
abbrev pub delay_at : VEntity → List Trit → ℕ → VOutput → Trit → Trit → Option ℕ
delay_at e inputs input output a b =
    (if same a b then None else Some (least_delay a b (paths_from e inputs input output)))
