use Rattle.std.proofs.Common.{[], ◌∙◌, ap, refl}
use Rattle.std.proofs.lemmas.List.{get_or_default}
use Rattle.stimulus.proofs.Runs.{next_proper, one_shown, begins, goes_on, one_put, stops_in, flushed, written_part, trace_text-is}
use Rattle.stimulus.proofs.printing.write_trace.Goals as goal

pub loop-change-init : goal.loop-change-init
loop-change-init g c = record {
  going = begins _ (one_shown c.args.tag c.args.ports.now (g.S.TraceSim.machine c.args.sim.now).line) _ _ _ _ _ _ c.requires.start c.requires.proper (rw c.new-waiting.ensures at ((c.in_ok-put_line.ensures.text [] c.requires.start).whole)) (trace_text-is c.args.tag c.args.ports.now (g.S.TraceSim.machine c.args.sim.now).line c.args.changes.now);
  machine = refl;
  kept = c.in_ok-put_line.ensures.cause.kept;
}

pub returns-in_err-put_line-2-clause-text : goal.returns-in_err-put_line-2-clause-text
returns-in_err-put_line-2-clause-text g c =
    let same = c.step.ensures.machine ∙ c.loop-change.invariant.machine in
    stops_in _ (g.S.TraceSim.stands c.step.new.self) (one_shown c.args.tag c.args.ports.now (g.S.TraceSim.machine c.args.sim.now).line) _ _ _ _ _ _ c.args.changes.now c.loop-change.change-index _ _ _ _ c.loop-change-test.true (get_or_default _ _ _ _ c.loop-change-test.true)
    c.step.ensures.stands c.loop-change.invariant.going (one_put _ c.args.tag c.args.ports.now _ _ _ _ _ _ _ _ (ap (λ m. m.line) same) c.in_err-put_line-2.ensures.text) c.from_residual-in_err-put_line-2.ensures.0

pub loop-change-preserved : goal.loop-change-preserved
loop-change-preserved g c =
    let same = c.step.ensures.machine ∙ c.loop-change.invariant.machine in
    record {
      going = goes_on _ _ (one_shown c.args.tag c.args.ports.now (g.S.TraceSim.machine c.args.sim.now).line) _ _ _ _ _ _ c.args.changes.now c.loop-change.change-index _ _ c.loop-change-test.true (get_or_default _ _ _ _ c.loop-change-test.true)
          c.step.ensures.stands c.loop-change.invariant.going (λ h s. (one_put _ c.args.tag c.args.ports.now _ _ _ _ _ _ _ _ (ap (λ m. m.line) same) c.in_ok-put_line-2.ensures.text h s).whole);
      machine = same;
      kept = c.in_ok-put_line-2.ensures.cause.kept ∙ c.loop-change.invariant.kept;
    }

pub returns-in_err-write_whole-clause-text : goal.returns-in_err-write_whole-clause-text
returns-in_err-write_whole-clause-text g c =
    written_part _ _ _ _ _ (flushed _ (one_shown c.args.tag c.args.ports.now (g.S.TraceSim.machine c.args.sim.now).line) _ _ _ _ _ _ _ _ _ c.loop-change-test.false c.loop-change.invariant.going (rw c.as_slice.ensures at c.in_err-write_whole.ensures.text)) c.from_residual-in_err-write_whole.ensures.0

pub returns-clause-text : goal.returns-clause-text
returns-clause-text g c = record {
  whole = (flushed _ (one_shown c.args.tag c.args.ports.now (g.S.TraceSim.machine c.args.sim.now).line) _ _ _ _ _ _ _ _ _ c.loop-change-test.false c.loop-change.invariant.going (rw c.as_slice.ensures at c.in_ok-write_whole.ensures.text)).whole;
  part = tt;
}

pub step-requires-clause-time : goal.step-requires-clause-time
step-requires-clause-time g c =
    let going = c.loop-change.invariant.going in
    let next = next_proper _ going.history c.args.changes.now c.loop-change.change-index _ c.loop-change-test.true (get_or_default _ _ _ _ c.loop-change-test.true) going.proper in
    (going.history, (going.standing, next.1))
