-- What the instances without a state drive, kept from one change to the next: an instance drives another value only after an
-- input or a state that feeds it changed.
use Rattle.std.specs.Prelude.{ℕ, Bool, true, false, List, map}
use Rattle.std.specs.List.{list_any}
use Rattle.trit_cubes.specs.declared.trits.Trit.{Trit}
use Rattle.trit_cubes.specs.declared.trits.Trit.TheVariants.{Unknown}
use Rattle.specify_blocks.specs.declared.model.VNet.{VNet}
use Rattle.specify_blocks.specs.declared.model.VNet.TheVariants as net
use Rattle.specify_blocks.specs.declared.model.Instance.{Instance}
use Rattle.specify_blocks.specs.declared.model.VModule.{VModule}
use Rattle.model_traces.specs.NetValues.{instance_value}
use Rattle.run_parts.specs.Places.{places_from}
use Rattle.module_runs.specs.FedInstances.{nets_of}

-- what an instance drives, where it has no state; X where it has one
abbrev pub kept_value : VModule → List Trit → List Trit → Instance → Trit
kept_value m inputs states = instance_value m inputs states Unknown

-- what each instance drives
abbrev pub kept_values : VModule → List Trit → List Trit → List Trit
kept_values m inputs states = map (kept_value m inputs states) m.instances

-- whether a net is a wire, which in a sound module has a state where it feeds an instance
abbrev pub is_wire : VNet → Bool
is_wire (net.Port p) = false
is_wire (net.Wire w) = true
is_wire net.Notifier = false

-- whether a state may feed an instance
abbrev pub reads_state : Instance → Bool
reads_state i = list_any is_wire (nets_of i)

-- the places of the instances that states may feed
abbrev pub state_places : List Instance → List ℕ
state_places instances = places_from reads_state 0 instances
