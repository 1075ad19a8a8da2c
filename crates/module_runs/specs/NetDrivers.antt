-- What is known of the drivers of nets: the place of the instance that drives a net, or that none does.
use Rattle.std.specs.Prelude.{◌≡◌, ℕ, List, Option, Some, None, slice_get}
use Rattle.std.specs.List.{position_from}
use Rattle.specify_blocks.specs.declared.model.VNet.{VNet}
use Rattle.specify_blocks.specs.declared.model.VNet.TheVariants as net
use Rattle.specify_blocks.specs.declared.model.Instance.{Instance}
use Rattle.specify_blocks.specs.Nets.{same_net, net_driven}
use Rattle.model_traces.specs.NetValues.{driver}
use Rattle.module_runs.specs.declared.drivers.Drivers.{Drivers}

-- what is known of the driver of a net, where the net is one of those that are known
abbrev pub known_driver : Drivers → VNet → Option (Option ℕ)
known_driver d (net.Port p) = slice_get d.ports p
known_driver d (net.Wire w) = slice_get d.wires w
known_driver d net.Notifier = None

-- what is known of the driver of this net is this
abbrev pub IsKnown : Drivers → VNet → Option ℕ → Type 0
IsKnown d n place = (found : Option ℕ) → known_driver d n ≡ Some found → found ≡ place

-- the first of the instances that drives a net, where the first one of them has the place k
abbrev pub driver_from : ℕ → List Instance → VNet → Option ℕ
driver_from k instances n = position_from (λ i. same_net (net_driven i) n) k instances

-- what is known of the drivers of nets is so
abbrev pub AreDrivers : List Instance → Drivers → Type 0
AreDrivers instances d = (n : VNet) → IsKnown d n (driver instances n)
