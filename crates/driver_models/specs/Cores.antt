-- What stands around a driver in its file: the names that are taken, and the models that may be its core.
use Rattle.std.specs.Prelude.{◌≡◌, ℕ, Bool, false, if◌then◌else◌, List, map, Option, Some, None, slice_get}
use Rattle.std.specs.List.{list_any, position_from}
use Rattle.std.specs.Option.{option_map, option_and_then}
use Rattle.std.specs.Str.{bytes_eq}
use Rattle.udp_tables.specs.declared.models.VPort.{VPort}
use Rattle.driver_models.specs.Models.{are_core_ports}

-- a model that may be a core
pub record Core : Type 0 where
  pub name : List ℕ
  pub ports : List VPort

-- the number of the first core of a name
abbrev pub core_number : (List ℕ → List ℕ → Bool) → List Core → List ℕ → Option ℕ
core_number is_same cores x = position_from (λ core. is_same x core.name) 0 cores

abbrev pub ports_at : List Core → ℕ → Option (List VPort)
ports_at cores n = option_map (λ (core : Core). core.ports) (slice_get cores n)

-- the ports of the first core of a name
abbrev pub core_ports : (List ℕ → List ℕ → Bool) → List Core → List ℕ → Option (List VPort)
core_ports is_same cores x = option_and_then (ports_at cores) (core_number is_same cores x)

-- a driver with these ports and so many wires to driven outputs may have a core with these ports
abbrev pub fits : List VPort → ℕ → Option (List VPort) → Bool
fits ports driven None = false
fits ports driven (Some core) = are_core_ports ports driven core

-- the name of the core of such a driver, where it is one
abbrev pub core_name : (List ℕ → List ℕ → Bool) → List Core → List VPort → ℕ → List ℕ → Option (List ℕ)
core_name is_same cores ports driven x = if fits ports driven (core_ports is_same cores x) then Some x else None

-- names that are found by what they are folded to: a name is among the first exactly where it is one of the others, folded
abbrev pub HaveSame : (List ℕ → List ℕ) → List (List ℕ) → List (List ℕ) → Type 0
HaveSame fold folded names = (x : List ℕ) → list_any (bytes_eq x) folded ≡ list_any (bytes_eq x) (map fold names)
