use Rattle.std.proofs.Common.{◌≡◌, ◌+◌, drop, length}
use Rattle.stimulus.specs.Comparison.{three_lines}
use Rattle.stimulus.proofs.Runs.{Stand, Comparing}
use Rattle.stimulus.proofs.comparison.write_comparison.Given as goal

abbrev pub invariant-loop-change : goal.invariant-loop-change
invariant-loop-change g l = record {
  comparing : Comparing (Stand (g.L.TraceSim.stands l.three.liberty) (g.V.TraceSim.stands l.three.verilog) (g.H.TraceSim.stands l.three.vital)) l.ports
      (three_lines (g.L.TraceSim.machine l.fn.three.liberty) (g.V.TraceSim.machine l.fn.three.verilog) (g.H.TraceSim.machine l.fn.three.vital))
      (length l.ports.inputs) (g.D.Desk.state l.fn.desk) (g.D.Desk.state l.desk) l.waiting l.changes (drop l.change-index l.changes) l.first l.number;
  liberty : g.L.TraceSim.machine l.three.liberty ≡ g.L.TraceSim.machine l.fn.three.liberty;
  verilog : g.V.TraceSim.machine l.three.verilog ≡ g.V.TraceSim.machine l.fn.three.verilog;
  vital : g.H.TraceSim.machine l.three.vital ≡ g.H.TraceSim.machine l.fn.three.vital;
  number : l.number ≡ l.change-index + 1;
  kept : g.D.Desk.faults l.desk ≡ g.D.Desk.faults l.fn.desk;
}
