-- The instances that a change feeds.
use Rattle.std.specs.Prelude.{ℕ, Bool, true, false, List, [], Option, Some, None, if◌then◌else◌}
use Rattle.std.specs.List.{list_any}
use Rattle.udp_tables.specs.declared.models.VPort.{VPort}
use Rattle.udp_tables.specs.Ports.{is_input_port}
use Rattle.specify_blocks.specs.declared.model.VNet.{VNet}
use Rattle.specify_blocks.specs.declared.model.VNet.TheVariants as net
use Rattle.specify_blocks.specs.declared.model.Instance.{Instance}
use Rattle.specify_blocks.specs.declared.model.Instance.TheVariants as instance
use Rattle.model_traces.specs.declared.turns.Turned.{Turned}
use Rattle.model_traces.specs.Primitives.{is_turned}
use Rattle.run_parts.specs.PortNumbers.{input_number}
use Rattle.run_parts.specs.Places.{places_from}
use Rattle.module_runs.specs.declared.fed_instances.Feeder.{Feeder}
use Rattle.module_runs.specs.declared.fed_instances.Feeder.TheVariants as feeder

-- the nets that feed an instance
abbrev pub nets_of : Instance → List VNet
nets_of (instance.Primitive udp output nets) = nets
nets_of (instance.Constant output one) = []

-- whether a change feeds an instance
abbrev pub is_fed : List VPort → Turned → Instance → Bool
is_fed ports what i = list_any (is_turned ports what) (nets_of i)

-- the places of the instances that a change feeds
abbrev pub fed_places : List VPort → Turned → List Instance → List ℕ
fed_places ports what instances = places_from (is_fed ports what) 0 instances

-- the number of the input that a net is, where it is one
abbrev pub input_of : List VPort → VNet → Option ℕ
input_of ports (net.Port p) = if is_input_port ports p then Some (input_number ports p) else None
input_of ports (net.Wire w) = None
input_of ports net.Notifier = None

-- whether a net brings the register of the checks or a state to an instance
abbrev pub feeds : Feeder → VNet → Bool
feeds feeder.Register net.Notifier = true
feeds feeder.States (net.Wire w) = true
feeds _ _ = false

abbrev pub is_fed_by : Feeder → Instance → Bool
is_fed_by feeder i = list_any (feeds feeder) (nets_of i)
