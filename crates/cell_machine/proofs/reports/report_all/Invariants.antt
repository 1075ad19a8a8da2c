use Rattle.std.proofs.Common.{◌≡◌, take, length, map}
use Rattle.cell_machine.specs.Times.{report_by}
use Rattle.cell_machine.specs.CellTrace.{input_check}
use Rattle.cell_machine.proofs.reports.report_all.Given as goal

-- the reports of the checks so far stand in front
abbrev pub invariant-loop-i : goal.invariant-loop-i
invariant-loop-i l = record {
  front :
      take l.i l.reports_of
      ≡ map (λ k. report_by (input_check l.cell.pins k) l.from l.inputs l.times l.change) (take l.i l.cell.checks);
  len : length l.reports_of ≡ length l.cell.checks;
}
