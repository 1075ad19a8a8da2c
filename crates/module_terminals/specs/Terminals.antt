-- Which nets and instances of a module stand for the parts of a cell. Ports stand for pins, and the instances of primitives
-- with a state, in their order, for the groups (this project's rule; IEEE 1364-2005, clauses 8 and 12).
use Rattle.std.specs.Prelude.{ℕ, Bool, true, false, not, ◌&&◌, List, [], ◌∷◌, ◌++◌, length, map, filter, find, nat_eq, Option}
use Rattle.std.specs.Prelude.{slice_get}
use Rattle.std.specs.List.{list_all, list_any}
use Rattle.std.specs.Option.{option_map_or}
use Rattle.bool_functions.specs.declared.tree.Node.{Node}
use Rattle.bool_functions.specs.Support.{support_of}
use Rattle.cell_machine.specs.declared.outputs.Source.{Source}
use Rattle.cell_machine.specs.declared.outputs.Source.TheVariants as source
use Rattle.cell_machine.specs.CellData.{CellData}
use Rattle.cell_machine.specs.CellTrace.{support_at, sources_at}
use Rattle.udp_tables.specs.CellPrimitives.{has_notifier}
use Rattle.specify_blocks.specs.declared.model.VNet.{VNet}
use Rattle.specify_blocks.specs.declared.model.VNet.TheVariants as net
use Rattle.specify_blocks.specs.declared.model.Instance.{Instance}
use Rattle.specify_blocks.specs.declared.model.Instance.TheVariants as instance
use Rattle.specify_blocks.specs.declared.model.VModule.{VModule}
use Rattle.specify_blocks.specs.Nets.{same_net, net_driven, has_state, is_sequential}
use Rattle.specify_blocks.specs.Sound.{IsInstance}
use Rattle.specify_blocks.specs.Generated.{pin_net, notifier_nets}

-- the instances of primitives with a state, in their order
abbrev pub sequential_instances : VModule → List Instance
sequential_instances m = filter (has_state m.udps) m.instances

-- the instance that drives a net, where there is one; in a sound module there is no other
abbrev pub driving : VModule → VNet → Option Instance
driving m n = find (λ i. same_net (net_driven i) n) m.instances

-- an instance that may stand in the module, behind some others
abbrev pub StandsIn : VModule → Instance → Type 0
StandsIn m i = (earlier : List Instance) × IsInstance m earlier i

-- the nets that feed an instance
abbrev pub nets_feeding : Instance → List VNet
nets_feeding (instance.Primitive udp output inputs) = inputs
nets_feeding (instance.Constant output one) = []

-- Whether two lists have the same nets, in any order. No net stands twice among the terminals of an instance, so the lists have
-- as many.
abbrev pub is_among : List VNet → VNet → Bool
is_among nets n = list_any (same_net n) nets

abbrev pub same_nets : List VNet → List VNet → Bool
same_nets ms ns = nat_eq (length ms) (length ns) && (list_all (is_among ns) ms && list_all (is_among ms) ns)

-- The nets of group g, in the order of its support: the ports of its pins, and behind them the register where the cell has
-- checks.
abbrev pub group_nets : CellData → ℕ → List VNet
group_nets d g = map (pin_net d.pins) (support_at d g) ++ notifier_nets (has_notifier d)

-- The nets of a condition, in the order of its support: the ports of its pins.
abbrev pub condition_nets : CellData → Node → List VNet
condition_nets d f = map (pin_net d.pins) (support_of f)

-- the net that stands for the state of group g: the wire that its instance drives
abbrev pub state_net : VModule → ℕ → VNet
state_net m g = option_map_or net_driven (slice_get (sequential_instances m) g) net.Notifier

abbrev pub source_net : CellData → VModule → Source → VNet
source_net d m (source.Pin p) = pin_net d.pins p
source_net d m (source.State g) = state_net m g

-- The nets of output o, in the order of its support: the ports of its pins and the wires of its states.
abbrev pub output_nets : CellData → VModule → ℕ → List VNet
output_nets d m o = map (source_net d m) (sources_at d o)

-- Whether an instance without a state stands for a value of these nets: where there are some it is one of a primitive that they
-- feed, and where there is none it is a constant.
abbrev pub stands_for : VModule → List VNet → Instance → Bool
stands_for m [] (instance.Primitive number output inputs) = false
stands_for m [] (instance.Constant output one) = true
stands_for m (n ∷ ns) (instance.Primitive number output inputs) =
    not (is_sequential m.udps number) && same_nets inputs (n ∷ ns)
stands_for m (n ∷ ns) (instance.Constant output one) = false

-- the same of the instance that drives a net
abbrev pub drives_value : VModule → List VNet → VNet → Bool
drives_value m nets n = option_map_or (stands_for m nets) (driving m n) false
