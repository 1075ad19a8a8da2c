use Rattle.std.proofs.Common.{◌≡◌, take, length}
use Rattle.cell_machine.specs.Each.{each}
use Rattle.run_parts.specs.CheckTimes.{reports_where}
use Rattle.run_parts.proofs.checks.compare_all.Given as goal

-- the reports of the checks so far stand in front
abbrev pub invariant-loop-i : goal.invariant-loop-i
invariant-loop-i g l = record {
  front :
      take l.i l.reports
      ≡ each (reports_where l.seen.ports.list.now (g.V.Conditions.counts l.values) l.seen.from l.seen.change) (take l.i l.checks) (take l.i l.stamps);
  len : length l.reports ≡ length l.initial.reports;
}
