use Rattle.std.proofs.Common.{[], ◌∙◌, refl, arith}
use Rattle.std.proofs.lemmas.List.{get_or_default}
use Rattle.stimulus.specs.Comparison.{three_lines}
use Rattle.stimulus.proofs.Runs.{Stand, three_shown, stops_in, flushed, written_part, compares_first, compares, three_put}
use Rattle.stimulus.proofs.Runs.{three_alike, next_proper}
use Rattle.stimulus.proofs.comparison.write_comparison.Goals as goal

pub loop-change-init : goal.loop-change-init
loop-change-init g c = record {
  comparing = compares_first _ c.args.ports.now (three_lines (g.L.TraceSim.machine c.args.three.now.liberty) (g.V.TraceSim.machine c.args.three.now.verilog) (g.H.TraceSim.machine c.args.three.now.vital)) _ _ _ _ _ _ _ (record { of_liberty = c.requires.liberty; of_verilog = c.requires.verilog; of_vital = c.requires.vital }) c.requires.proper
      (rw c.new-waiting.ensures at ((c.in_ok-alike.ensures.text [] c.requires.liberty c.requires.verilog c.requires.vital).whole))
      c.unlike-first.ensures (c.in_ok-alike.ensures.alike [] c.requires.liberty c.requires.verilog c.requires.vital);
  liberty = refl;
  verilog = refl;
  vital = refl;
  number = omega arith;
  kept = c.in_ok-alike.ensures.cause.kept;
}

pub returns-in_err-alike-2-clause-text : goal.returns-in_err-alike-2-clause-text
returns-in_err-alike-2-clause-text g c =
    let liberty = c.step.ensures.liberty_machine ∙ c.loop-change.invariant.liberty in
    let verilog = c.step.ensures.verilog_machine ∙ c.loop-change.invariant.verilog in
    let vital = c.step.ensures.vital_machine ∙ c.loop-change.invariant.vital in
    stops_in _ (Stand (g.L.TraceSim.stands c.step.new.self.liberty) (g.V.TraceSim.stands c.step.new.self.verilog) (g.H.TraceSim.stands c.step.new.self.vital)) (three_shown c.args.ports.now (three_lines (g.L.TraceSim.machine c.args.three.now.liberty) (g.V.TraceSim.machine c.args.three.now.verilog) (g.H.TraceSim.machine c.args.three.now.vital))) _ _ _ _ _ _ c.args.changes.now c.loop-change.change-index _ _ _ _ c.loop-change-test.true (get_or_default _ _ _ _ c.loop-change-test.true)
    (λ h s. record { of_liberty = c.step.ensures.liberty h s.of_liberty; of_verilog = c.step.ensures.verilog h s.of_verilog; of_vital = c.step.ensures.vital h s.of_vital })
    c.loop-change.invariant.comparing.going
    (three_put _ _ _ c.args.ports.now (three_lines (g.L.TraceSim.machine c.args.three.now.liberty) (g.V.TraceSim.machine c.args.three.now.verilog) (g.H.TraceSim.machine c.args.three.now.vital)) _ _ _ _ _ _ _ (λ i. three_lines (liberty i) (verilog i) (vital i)) c.in_err-alike-2.ensures.text) c.from_residual-in_err-alike-2.ensures.0

pub loop-change-preserved : goal.loop-change-preserved
loop-change-preserved g c =
    let liberty = c.step.ensures.liberty_machine ∙ c.loop-change.invariant.liberty in
    let verilog = c.step.ensures.verilog_machine ∙ c.loop-change.invariant.verilog in
    let vital = c.step.ensures.vital_machine ∙ c.loop-change.invariant.vital in
    record {
      comparing = rw c.unlike-first-in-loop-change.ensures
          (compares _ _ c.args.ports.now (three_lines (g.L.TraceSim.machine c.args.three.now.liberty) (g.V.TraceSim.machine c.args.three.now.verilog) (g.H.TraceSim.machine c.args.three.now.vital)) _ _ _ _ _ _ c.args.changes.now c.loop-change.change-index _ _ _ _ c.loop-change-test.true (get_or_default _ _ _ _ c.loop-change-test.true)
          (λ h s. record { of_liberty = c.step.ensures.liberty h s.of_liberty; of_verilog = c.step.ensures.verilog h s.of_verilog; of_vital = c.step.ensures.vital h s.of_vital })
          c.loop-change.invariant.comparing
          (λ h s. (three_put _ _ _ c.args.ports.now (three_lines (g.L.TraceSim.machine c.args.three.now.liberty) (g.V.TraceSim.machine c.args.three.now.verilog) (g.H.TraceSim.machine c.args.three.now.vital)) _ _ _ _ _ _ _ (λ i. three_lines (liberty i) (verilog i) (vital i)) c.in_ok-alike-2.ensures.text h s).whole)
          (three_alike _ _ _ (three_lines (g.L.TraceSim.machine c.args.three.now.liberty) (g.V.TraceSim.machine c.args.three.now.verilog) (g.H.TraceSim.machine c.args.three.now.vital)) _ _ _ (λ i. three_lines (liberty i) (verilog i) (vital i)) c.in_ok-alike-2.ensures.alike));
      liberty = liberty;
      verilog = verilog;
      vital = vital;
      number = omega (arith, c.loop-change.invariant.number);
      kept = c.in_ok-alike-2.ensures.cause.kept ∙ c.loop-change.invariant.kept;
    }

pub returns-in_err-write_whole-clause-text : goal.returns-in_err-write_whole-clause-text
returns-in_err-write_whole-clause-text g c =
    written_part _ _ _ _ _ (flushed _ (three_shown c.args.ports.now (three_lines (g.L.TraceSim.machine c.args.three.now.liberty) (g.V.TraceSim.machine c.args.three.now.verilog) (g.H.TraceSim.machine c.args.three.now.vital))) _ _ _ _ _ _ _ _ _ c.loop-change-test.false c.loop-change.invariant.comparing.going (rw c.as_slice.ensures at c.in_err-write_whole.ensures.text)) c.from_residual-in_err-write_whole.ensures.0

pub returns-clause-text : goal.returns-clause-text
returns-clause-text g c = record {
  whole = (flushed _ (three_shown c.args.ports.now (three_lines (g.L.TraceSim.machine c.args.three.now.liberty) (g.V.TraceSim.machine c.args.three.now.verilog) (g.H.TraceSim.machine c.args.three.now.vital))) _ _ _ _ _ _ _ _ _ c.loop-change-test.false c.loop-change.invariant.comparing.going (rw c.as_slice.ensures at c.in_ok-write_whole.ensures.text)).whole;
  part = tt;
}

pub step-requires-clause-time : goal.step-requires-clause-time
step-requires-clause-time g c =
    let going = c.loop-change.invariant.comparing.going in
    let next = next_proper _ going.history c.args.changes.now c.loop-change.change-index _ c.loop-change-test.true (get_or_default _ _ _ _ c.loop-change-test.true) going.proper in
    (going.history, (going.standing.of_liberty, (going.standing.of_verilog, (going.standing.of_vital, next.1))))
