use Rattle.std.proofs.Common.{◌<◌, length, sym, ◌∙◌, arith}
use Rattle.stimulus.proofs.TraceTexts.{outputs_at, grown}
use Rattle.stimulus.proofs.trace.push_outputs.Goals as goal

pub loop-place-preserved : goal.loop-place-preserved
loop-place-preserved g c = λ h s.
    let below : c.loop-place.place < length c.args.names.now = omega (arith, c.len-place-end.ensures.len) in
    grown _ _ _ _ _ _ c.in_ok-push_output.ensures
    (outputs_at _ _ _ _ _ _ _ below ((g.met.S.TraceSim.sized c.args.sim.now).values h ∙ sym c.requires) ((g.met.S.TraceSim.sized c.args.sim.now).delays h ∙ sym c.requires) c.name.ensures (c.value.ensures h s) (c.delay.ensures h s))
    (c.loop-place.invariant h s)
