-- A flip-flop of which both languages have an example: its inputs CK and D, its output Q, and a setup of 50 of D before rising
-- CK.
use Rattle.std.proofs.Common.{true, false, List, [], ◌∷◌, None, codes}
use Rattle.cell_machine.specs.declared.checks.CheckKind.TheVariants as check_kind
use Rattle.cell_machine.specs.declared.checks.Edge.TheVariants as edge
use Rattle.udp_tables.specs.declared.models.VPort.{VPort}
use Rattle.udp_tables.specs.declared.timing_checks.TimingCheck.{TimingCheck}

abbrev pub flip-flop-ports : List VPort
flip-flop-ports =
    record { name = codes "CK"; input = true } ∷ record { name = codes "D"; input = true }
    ∷ record { name = codes "Q"; input = false } ∷ []

abbrev pub flip-flop-checks : List TimingCheck
flip-flop-checks = record {
  kind = check_kind.Setup;
  first = record { pin = 1; edge = edge.Any };
  second = record { pin = 0; edge = edge.Rise };
  limit = 50;
  condition = None;
} ∷ []
