-- The values of an entity's conditions, kept from one change to the next: a condition has another value only after an input of
-- its table changed.
use Rattle.std.specs.Prelude.{◌≡◌, ℕ, Bool, List, length, map, nat_eq}
use Rattle.std.specs.List.{list_any}
use Rattle.trit_cubes.specs.declared.trits.Trit.{Trit}
use Rattle.udp_tables.specs.declared.models.VPort.{VPort}
use Rattle.vital_models.specs.declared.model.VTruth.{VTruth}
use Rattle.vital_models.specs.declared.model.VEntity.{VEntity}
use Rattle.model_traces.specs.PortNumbers.{input_count, input_number}
use Rattle.model_traces.specs.ProcessValues.{truth_value}
use Rattle.run_parts.specs.NumberedLists.{AreLists}
use Rattle.run_parts.specs.Places.{places_from}

-- the value of each condition
abbrev pub condition_values : VEntity → List Trit → List Trit
condition_values e inputs = map (truth_value e.ports inputs) e.conditions

-- whether a port is read as the input with this number
abbrev pub is_read : List VPort → ℕ → ℕ → Bool
is_read ports input port = nat_eq (input_number ports port) input

-- whether an input is one of these ports
abbrev pub is_among : List VPort → List ℕ → ℕ → Bool
is_among ports list input = list_any (is_read ports input) list

-- whether an input feeds a condition
abbrev pub is_fed : List VPort → ℕ → VTruth → Bool
is_fed ports input truth = is_among ports truth.inputs input

-- the places of the conditions that an input feeds
abbrev pub fed_places : List VPort → List VTruth → ℕ → List ℕ
fed_places ports conditions input = places_from (is_fed ports input) 0 conditions

-- for each input these are the places of the conditions that it feeds
pub record AreFed (ports : List VPort) (conditions : List VTruth) (fed : List (List ℕ)) : Type 0 where
  pub each_input : length fed ≡ input_count ports
  pub fed_by_input : AreLists (fed_places ports conditions) fed
