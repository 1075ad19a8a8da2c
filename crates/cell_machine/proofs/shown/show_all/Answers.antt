use Rattle.std.proofs.Common.{◌<◌, ap, ◌∙◌, length, arith, None}
use Rattle.std.proofs.Math.ListN.{length-set}
use Rattle.trit_cubes.specs.declared.trits.Trit.TheVariants.{Zero}
use Rattle.cell_machine.specs.ShownOutputs.{shown_step}
use Rattle.cell_machine.proofs.ArcDelays.{some_at}
use Rattle.cell_machine.proofs.EachLemmas.{each-kept}
use Rattle.cell_machine.proofs.shown.show_all.Goals as goal

pub loop-i-preserved : goal.loop-i-preserved
loop-i-preserved c =
    let cell = c.args.cell.now in
    let many : c.loop-i.i < length c.loop-i.shown = omega arith in
    let here = some_at cell.outputs c.loop-i.i (omega (arith, many, c.loop-i.invariant.len, c.requires.one_each)) in
    record {
      whole =
          each-kept (λ o s. shown_step cell.pins cell.groups cell.arcs c.args.seen.now.inputs.now c.args.seen.now.states.now c.args.seen.now.change o s.value) cell.outputs c.loop-i.shown
          c.loop-i.i (record { value = Zero; delay = None }) here.1 many (rw c.as_slice.ensures at (c.shown_step.ensures.shown here.0 here.1)) c.set.ensures
          c.loop-i.invariant.whole;
      len = ap length c.set.ensures ∙ length-set c.loop-i.shown c.loop-i.i c.shown_step.result ∙ c.loop-i.invariant.len;
      kept = c.shown_step.ensures.kept;
    }
