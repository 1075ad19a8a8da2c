-- Laws of models of drivers.
use Rattle.std.specs.Prelude.{◌≡◌, ◌↔◌, ℕ, true, List}
use Rattle.udp_tables.specs.declared.models.VPort.{VPort}
use Rattle.driver_models.specs.Models.{AreCorePorts, are_core_ports}

-- The test of the ports of a core holds exactly where they are those of a core.
abbrev pub CorePortsAreDecided : Type 0
CorePortsAreDecided = (ports : List VPort) (driven : ℕ) (core : List VPort) → (are_core_ports ports driven core ≡ true)
    ↔ AreCorePorts ports driven core
