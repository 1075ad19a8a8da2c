-- The values of an entity's conditions and outputs, of the values of its inputs and its states. (IEEE 1076.4-2000,
-- VitalTruthTable.)
use Rattle.std.specs.Prelude.{ℕ, Bool, true, List, map, Option, Some, None, slice_get, slice_index_or}
use Rattle.std.specs.Option.{option_map_or}
use Rattle.trit_cubes.specs.declared.trits.Trit.{Trit}
use Rattle.trit_cubes.specs.declared.trits.Trit.TheVariants.{Unknown}
use Rattle.trit_cubes.specs.Filling.{trit_of}
use Rattle.cell_machine.specs.declared.outputs.Source.{Source}
use Rattle.cell_machine.specs.declared.outputs.Source.TheVariants as source
use Rattle.cell_machine.specs.Outputs.{is_one}
use Rattle.udp_tables.specs.declared.models.VPort.{VPort}
use Rattle.vital_models.specs.declared.model.VTruth.{VTruth}
use Rattle.vital_models.specs.declared.model.OutValue.{OutValue}
use Rattle.vital_models.specs.declared.model.OutValue.TheVariants as value
use Rattle.vital_models.specs.declared.model.VEntity.{VEntity}
use Rattle.vital_models.specs.LookUps.{lookup_truth}
use Rattle.run_parts.specs.PortNumbers.{input_value}

-- what a truth table of input ports gives
abbrev pub truth_value : List VPort → List Trit → VTruth → Trit
truth_value ports inputs truth = lookup_truth truth.table.rows (map (input_value ports inputs) truth.inputs)

-- the value of the condition with this number, X where there is none
abbrev pub condition_value : VEntity → List Trit → ℕ → Trit
condition_value e inputs i = option_map_or (truth_value e.ports inputs) (slice_get e.conditions i) Unknown

-- whether a check's condition lets it count: there is none, or it is 1 (VITAL's CheckEnabled)
abbrev pub is_enabled : VEntity → List Trit → Option ℕ → Bool
is_enabled e inputs None = true
is_enabled e inputs (Some i) = is_one (condition_value e inputs i)

-- the value of an input port, or of a state
abbrev pub source_value : List VPort → List Trit → List Trit → Source → Trit
source_value ports inputs states (source.Pin p) = input_value ports inputs p
source_value ports inputs states (source.State g) = slice_index_or states g Unknown

-- the value of an output: a constant, or what its truth table gives
abbrev pub output_value : VEntity → List Trit → List Trit → OutValue → Trit
output_value e inputs states (value.Constant one) = trit_of one
output_value e inputs states (value.Table table sources) =
    lookup_truth table.rows (map (source_value e.ports inputs states) sources)
