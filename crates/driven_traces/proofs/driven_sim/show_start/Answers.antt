use Rattle.std.proofs.Common.{◌+◌, ◌++◌, ◌∷◌, [], length, None, ◌∙◌, ap, sym, arith}
use Rattle.std.proofs.lemmas.List.{length-append}
use Rattle.std.proofs.lemmas.List.FromFn.{map-range_with_len_more}
use Rattle.driven_traces.specs.DrivenStands.{first_shown}
use Rattle.driven_traces.proofs.driven_sim.show_start.Goals as goal

pub loop-number-preserved : goal.loop-number-preserved
loop-number-preserved g c = record {
  whole = λ h s.
      c.in_ok-push.ensures.ok
      ∙ (λ i. c.loop-number.invariant.whole h s i ++ record { value = c.driven_value.ensures h s i; delay = None } ∷ [])
      ∙ sym (map-range_with_len_more (first_shown c.args.driver.now ((g.S.CellSim.machine c.args.core.now).line h).values) 0 c.loop-number.number c.loop-number.number (omega arith));
  len = ap length c.in_ok-push.ensures.ok ∙ length-append c.loop-number.shown (_ ∷ []) ∙ ap (λ n. n + 1) c.loop-number.invariant.len;
}
