use Rattle.std.proofs.Common.{◌<◌, sym, ap, ◌∙◌, length, arith}
use Rattle.trit_cubes.specs.declared.trits.Trit.TheVariants.{Zero}
use Rattle.std.proofs.Math.ListN.{length-set}
use Rattle.cell_machine.specs.CellData.{data_of}
use Rattle.cell_machine.specs.CellTrace.{state_step, named_groups}
use Rattle.cell_machine.proofs.ArcDelays.{some_at}
use Rattle.cell_machine.proofs.EachLemmas.{each-kept, each-done}
use Rattle.cell_machine.proofs.GroupSteps.{named-at}
use Rattle.cell_machine.proofs.states.step_states.Goals as goal

pub loop-i-preserved : goal.loop-i-preserved
loop-i-preserved c =
    let cell = data_of c.args.cell.now in
    let seen = c.args.seen.now in
    let many : c.loop-i.i < length c.loop-i.states = omega arith in
    let inside : c.loop-i.i < length cell.groups = omega (arith, c.loop-i.invariant.len, c.requires.one_each) in
    let here = some_at cell.groups c.loop-i.i inside in
    record {
      whole =
          each-kept (λ g s. state_step seen.reported cell.pins g seen.inputs.now seen.from seen.change s) (named_groups cell) c.loop-i.states c.loop-i.i Zero
          (named-at (length cell.pins) cell.groups c.loop-i.i here.0 here.1) many (rw c.as_slice.ensures at (c.state_step.ensures here.0 here.1)) c.set.ensures
          c.loop-i.invariant.whole;
      len = ap length c.set.ensures ∙ length-set c.loop-i.states c.loop-i.i c.state_step.result ∙ c.loop-i.invariant.len;
    }

pub returns-clause-stepped : goal.returns-clause-stepped
returns-clause-stepped c =
    let cell = data_of c.args.cell.now in
    let seen = c.args.seen.now in
    sym (each-done (λ g s. state_step seen.reported cell.pins g seen.inputs.now seen.from seen.change s)
    (named_groups cell) c.loop-i.states c.loop-i.i (omega arith))
    ∙ c.loop-i.invariant.whole
