use Rattle.stimulus.specs.Differences.{same_values, same_delays}
use Rattle.stimulus.proofs.Compared.{RestDecides}
use Rattle.stimulus.proofs.differences.same_outputs.Given as goal

abbrev pub invariant-loop-place : goal.invariant-loop-place
invariant-loop-place g l = record {
  values : RestDecides same_values (g.A.TraceSim.stands l.left) (g.B.TraceSim.stands l.right) (λ h. ((g.A.TraceSim.machine l.left).line h).values)
      (λ k. ((g.B.TraceSim.machine l.right).line k).values) l.place;
  delays : RestDecides same_delays (g.A.TraceSim.stands l.left) (g.B.TraceSim.stands l.right) (λ h. ((g.A.TraceSim.machine l.left).line h).delays)
      (λ k. ((g.B.TraceSim.machine l.right).line k).delays) l.place;
}
