use Rattle.std.proofs.Common.{◌<◌, ◌≤◌, ap, ◌∙◌, length, arith}
use Rattle.std.proofs.lemmas.List.{length-set}
use Rattle.std.proofs.lemmas.Option.{slice_get-get_or}
use Rattle.run_parts.specs.CheckTimes.{reports_where}
use Rattle.run_parts.proofs.Fronts.{front-step, front-done}
use Rattle.run_parts.proofs.checks.compare_all.Goals as goal

pub loop-i-preserved : goal.loop-i-preserved
loop-i-preserved g c =
    let checks = c.args.checks.now in
    let many : c.loop-i.i < length c.loop-i.reports = omega arith in
    let inside : c.loop-i.i < length checks = omega (arith, c.loop-i.invariant.len, c.requires.one_report) in
    let kept : c.loop-i.i < length c.args.stamps.now = omega (arith, inside, c.requires.one_each) in
    record {
      front =
          rw c.set.ensures
          (front-step (reports_where c.args.seen.now.ports.list.now (g.V.Conditions.counts c.args.values.now) c.args.seen.now.from c.args.seen.now.change) checks
          c.args.stamps.now c.loop-i.reports c.loop-i.i _ _ c.check_reports-reported.result
          (slice_get-get_or checks c.loop-i.i _ inside) kept many c.check_reports-reported.ensures c.loop-i.invariant.front);
      len = ap length c.set.ensures ∙ length-set c.loop-i.reports c.loop-i.i c.check_reports-reported.result ∙ c.loop-i.invariant.len;
    }

pub returns-clause-reports : goal.returns-clause-reports
returns-clause-reports g c =
    let checks = c.args.checks.now in
    let all : length c.loop-i.reports ≤ c.loop-i.i = omega (arith, c.loop-i.invariant.len) in
    let done : length checks ≤ c.loop-i.i = omega (arith, all, c.loop-i.invariant.len, c.requires.one_report) in
    let kept : length c.args.stamps.now ≤ c.loop-i.i = omega (arith, done, c.requires.one_each) in
    front-done (reports_where c.args.seen.now.ports.list.now (g.V.Conditions.counts c.args.values.now) c.args.seen.now.from c.args.seen.now.change) checks
    c.args.stamps.now c.loop-i.reports c.loop-i.i done kept all c.loop-i.invariant.front
