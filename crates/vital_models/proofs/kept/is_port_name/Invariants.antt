use Rattle.std.proofs.Common.{◌≡◌, drop}
use Rattle.std.specs.List.{list_any}
use Rattle.std.specs.Str.{str_eq_ignore_ascii_case}
use Rattle.vital_tables.specs.udp_tables.declared.models.VPort.{VPort}
use Rattle.vital_models.proofs.kept.is_port_name.Given as goal

abbrev pub invariant-loop-port : goal.invariant-loop-port
invariant-loop-port l =
    list_any (λ (port : VPort). str_eq_ignore_ascii_case port.name l.name) (drop l.port-index l.ports)
    ≡ list_any (λ (port : VPort). str_eq_ignore_ascii_case port.name l.name) l.ports
