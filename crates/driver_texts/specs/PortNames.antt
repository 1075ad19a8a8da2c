-- The names of the ports of a driver by their numbers.
use Rattle.std.specs.Prelude.{ℕ, not, List, [], slice_get}
use Rattle.std.specs.List.{filter}
use Rattle.std.specs.Option.{option_map_or}
use Rattle.udp_tables.specs.declared.models.VPort.{VPort}
use Rattle.driver_models.specs.declared.model.DriverModel.{DriverModel}

-- the inputs and the outputs among ports
abbrev pub inputs : List VPort → List VPort
inputs ports = filter (λ (port : VPort). port.input) ports

abbrev pub outputs : List VPort → List VPort
outputs ports = filter (λ (port : VPort). not port.input) ports

-- of these ports the name of the one with this number; a number that names nothing is written as nothing
abbrev pub name_at : List VPort → ℕ → List ℕ
name_at ports number = option_map_or (λ (port : VPort). port.name) (slice_get ports number) []

-- the name of a driven output
abbrev pub driven_name : DriverModel → ℕ → List ℕ
driven_name m number = option_map_or (name_at (outputs m.ports)) (slice_get m.driver.drives number) []
