use Rattle.std.proofs.Common.{◌<◌, ap, ◌∙◌, length, arith, false}
use Rattle.std.proofs.lemmas.List.{length-set}
use Rattle.run_parts.proofs.Fronts.{clear-step}
use Rattle.run_parts.proofs.checks.clear.Goals as goal

pub loop-i-preserved : goal.loop-i-preserved
loop-i-preserved c =
    let many : c.loop-i.i < length c.loop-i.reports = omega arith in
    record {
      front = rw c.set.ensures (clear-step c.loop-i.reports c.loop-i.i false many c.loop-i.invariant.front);
      len = ap length c.set.ensures ∙ length-set c.loop-i.reports c.loop-i.i false ∙ c.loop-i.invariant.len;
    }
