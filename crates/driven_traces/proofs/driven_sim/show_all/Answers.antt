use Rattle.std.proofs.Common.{◌<◌, ◌≤◌, ap, sym, ◌∙◌, length, get_or, arith, None}
use Rattle.std.proofs.Math.ListN.{length-set}
use Rattle.cell_machine.specs.Each.{each}
use Rattle.cell_machine.proofs.EachLemmas.{each-kept, each-done}
use Rattle.stimulus.specs.declared.drives.Drive.TheVariants.{Zero}
use Rattle.driven_traces.specs.DrivenLines.{driven_delay}
use Rattle.driven_traces.specs.DrivenStands.{numbers, next_shown}
use Rattle.driven_traces.proofs.DrivenOutputs.{number_at}
use Rattle.driven_traces.proofs.driven_sim.show_all.Goals as goal

pub loop-number-preserved : goal.loop-number-preserved
loop-number-preserved g c =
    let driver = c.args.driver.now in
    let at = c.loop-number.number in
    let many : at < length c.loop-number.shown = omega arith in
    let inside : at < length driver.drives = omega (arith, c.loop-number.invariant.len, c.requires.each_drive) in
    record {
      whole = λ h s.
          let values = ((g.S.CellSim.machine c.args.core.now).line h).values in
          let value = c.driven_value-value.ensures h s in
          each-kept (λ number was. next_shown driver c.args.input values was.value number) (numbers driver) c.loop-number.shown at (record { value = Zero; delay = None })
          {whole = each (λ number was. next_shown driver c.args.input values was.value number) (numbers driver) c.args.shown.now}
          (number_at (length driver.drives) at inside) many
          (λ i. record {
            value = value i;
            delay = (c.driven_delay-delay.ensures ∙ (λ j. driven_delay driver c.args.input at (get_or (c.as_slice.ensures j) at (record { value = Zero; delay = None })).value (value j))) i;
          })
          c.set.ensures (c.loop-number.invariant.whole h s);
      len = ap length c.set.ensures ∙ length-set c.loop-number.shown at _ ∙ c.loop-number.invariant.len;
    }

pub returns-clause-shown : goal.returns-clause-shown
returns-clause-shown g c = λ h s.
    let over : length c.loop-number.shown ≤ c.loop-number.number = omega (arith, c.loop-number.invariant.len, c.len-number-end.ensures) in
    sym (each-done (λ number was. next_shown c.args.driver.now c.args.input ((g.S.CellSim.machine c.args.core.now).line h).values was.value number) (numbers c.args.driver.now) c.loop-number.shown c.loop-number.number over)
    ∙ c.loop-number.invariant.whole h s
