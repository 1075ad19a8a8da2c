-- Models of drivers. (IEEE 1364-2005, 7.4, three-state gates; IEEE 1076.4-2000, VitalBUFIF1; that a driver is a model of its own
-- is this project's form.)
use Rattle.std.specs.Prelude.{◌≡◌, ℕ, ◌++◌, Bool, not, ◌&&◌, nat_eq, List, [], ◌∷◌, length, map, count_by, replicate, false}
use Rattle.std.specs.List.{list_all}
use Rattle.std.specs.Bool.{beq}
use Rattle.udp_tables.specs.declared.models.VPort.{VPort}
use Rattle.driven_traces.specs.Drivers as drivers
use Rattle.driver_models.specs.declared.model.DriverModel.{DriverModel}

abbrev pub is_input : VPort → Bool
is_input port = port.input

-- how many inputs these ports have, and how many outputs
abbrev pub input_count : List VPort → ℕ
input_count ports = count_by is_input ports

abbrev pub output_count : List VPort → ℕ
output_count ports = count_by (λ (port : VPort). not port.input) ports

-- A model of drivers is sound where its numbers are those of its ports.
pub record IsSound (model : DriverModel) : Type 0 where
  pub inputs : model.driver.inputs ≡ input_count model.ports
  pub outputs : model.driver.outputs ≡ output_count model.ports
  pub driver : drivers.IsSound model.driver

-- for each port, whether it is an input
abbrev pub directions : List VPort → List Bool
directions ports = map is_input ports

-- Ports are those of a core for a driver with these ports and so many driven outputs: the same directions in the same order, and
-- behind them one more output for each driven one.
abbrev pub AreCorePorts : List VPort → ℕ → List VPort → Type 0
AreCorePorts ports driven core = directions core ≡ directions ports ++ replicate driven false

-- The same as a function. First the ports that a core has in common with a driver, then the outputs for its driven ones.
abbrev pub are_core_ports : List VPort → ℕ → List VPort → Bool
are_core_ports [] driven core = nat_eq (length core) driven && list_all (λ (port : VPort). not port.input) core
are_core_ports (port ∷ ports) driven [] = false
are_core_ports (port ∷ ports) driven (first ∷ core) = beq first.input port.input && are_core_ports ports driven core
