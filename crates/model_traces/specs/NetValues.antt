-- The value of each net of a module, of the values of its inputs and the states of its instances. The states are a list with
-- an entry for each instance; that of an instance without a state is not read. A net without a state has no memory: wherever
-- it is read, it has what its table gives at that moment. (IEEE 1364-2005, clause 8.)
use Rattle.std.specs.Prelude.{ℕ, List, map, Option, Some, None, position, slice_get, slice_index_or, if◌then◌else◌}
use Rattle.std.specs.Option.{option_map_or}
use Rattle.trit_cubes.specs.declared.trits.Trit.{Trit}
use Rattle.trit_cubes.specs.declared.trits.Trit.TheVariants.{Unknown}
use Rattle.trit_cubes.specs.Filling.{trit_of}
use Rattle.udp_tables.specs.declared.table.Udp.{Udp}
use Rattle.udp_tables.specs.Primitive.{level_output}
use Rattle.specify_blocks.specs.declared.model.VNet.{VNet}
use Rattle.specify_blocks.specs.declared.model.VNet.TheVariants as net
use Rattle.specify_blocks.specs.declared.model.Instance.{Instance}
use Rattle.specify_blocks.specs.declared.model.Instance.TheVariants as instance
use Rattle.specify_blocks.specs.declared.model.VModule.{VModule}
use Rattle.specify_blocks.specs.Nets.{same_net, net_driven}
use Rattle.run_parts.specs.PortNumbers.{input_value}

-- the place of the instance that drives a net, where there is one
abbrev pub driver : List Instance → VNet → Option ℕ
driver instances n = position (λ i. same_net (net_driven i) n) instances

-- the state of the instance at this place, X where there is none
abbrev pub kept_state : List Trit → Option ℕ → Trit
kept_state states None = Unknown
kept_state states (Some i) = slice_index_or states i Unknown

-- The value of a net that feeds a primitive without a state. In a sound module such a net is an input, or a wire that a
-- primitive with a state drives.
abbrev pub source_value : VModule → List Trit → List Trit → VNet → Trit
source_value m inputs states (net.Port p) = input_value m.ports inputs p
source_value m inputs states (net.Wire w) = kept_state states (driver m.instances (net.Wire w))
source_value m inputs states net.Notifier = Unknown

-- what a primitive without a state gives for the nets that feed it
abbrev pub table_value : VModule → List Trit → List Trit → List VNet → Udp → Trit
table_value m inputs states nets udp = level_output udp.rows (map (source_value m inputs states) nets)

-- what a primitive drives whose instance has this state
abbrev pub primitive_value : VModule → List Trit → List Trit → Trit → List VNet → Udp → Trit
primitive_value m inputs states state nets udp = if udp.sequential then state else table_value m inputs states nets udp

-- what an instance with this state drives
abbrev pub instance_value : VModule → List Trit → List Trit → Trit → Instance → Trit
instance_value m inputs states state (instance.Primitive number output nets) =
    option_map_or (primitive_value m inputs states state nets) (slice_get m.udps number) Unknown
instance_value m inputs states state (instance.Constant output one) = trit_of one

-- what the instance at this place drives, X where there is none
abbrev pub value_from : VModule → List Trit → List Trit → Option ℕ → Trit
value_from m inputs states None = Unknown
value_from m inputs states (Some i) =
    option_map_or (instance_value m inputs states (slice_index_or states i Unknown)) (slice_get m.instances i) Unknown

-- the value of a net that an instance drives: a wire or an output
abbrev pub net_value : VModule → List Trit → List Trit → VNet → Trit
net_value m inputs states n = value_from m inputs states (driver m.instances n)
