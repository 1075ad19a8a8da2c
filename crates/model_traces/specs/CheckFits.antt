-- When a timing check of a model measures what one of the cell measures, in both languages.
use Rattle.std.specs.Prelude.{◌≡◌, List}
use Rattle.cell_machine.specs.declared.checks.Check.{Check}
use Rattle.cell_machine.specs.CellData.{CellData}
use Rattle.cell_machine.specs.CellTrace as cell
use Rattle.udp_tables.specs.declared.models.VPort.{VPort}
use Rattle.udp_tables.specs.declared.timing_checks.TimingCheck.{TimingCheck}
use Rattle.run_parts.specs.PortNumbers.{input_event}

-- the kind, the limit and the events of the cell's check over the numbers of inputs
pub record MeasuresSame (d : CellData) (ports : List VPort) (k : Check) (j : TimingCheck) : Type 0 where
  pub kind : j.kind ≡ k.kind
  pub first : input_event ports j.first ≡ cell.input_event d.pins k.first
  pub second : input_event ports j.second ≡ cell.input_event d.pins k.second
  pub limit : j.limit ≡ k.limit
