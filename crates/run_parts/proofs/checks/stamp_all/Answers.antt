use Rattle.std.proofs.Common.{◌<◌, sym, ap, ◌∙◌, refl, length, arith}
use Rattle.std.proofs.lemmas.List.{length-set}
use Rattle.std.proofs.lemmas.Option.{slice_get-get_or}
use Rattle.cell_machine.proofs.EachLemmas.{each-kept, each-done}
use Rattle.run_parts.specs.CheckTimes.{stamped}
use Rattle.run_parts.proofs.checks.stamp_all.Goals as goal

pub loop-i-preserved : goal.loop-i-preserved
loop-i-preserved c =
    let checks = c.args.checks.now in
    let many : c.loop-i.i < length c.loop-i.stamps = omega arith in
    let inside : c.loop-i.i < length checks = omega (arith, c.loop-i.invariant.len, c.requires) in
    record {
      whole =
          each-kept (stamped c.args.seen.now.ports.list.now c.args.seen.now.from c.args.seen.now.change) checks c.loop-i.stamps c.loop-i.i _
          (slice_get-get_or checks c.loop-i.i _ inside) many refl c.stamp.ensures c.loop-i.invariant.whole;
      len = ap length c.stamp.ensures ∙ length-set c.loop-i.stamps c.loop-i.i _ ∙ c.loop-i.invariant.len;
    }

pub returns-clause-stamped : goal.returns-clause-stamped
returns-clause-stamped c =
    let checks = c.args.checks.now in
    sym (each-done (stamped c.args.seen.now.ports.list.now c.args.seen.now.from c.args.seen.now.change) checks c.loop-i.stamps c.loop-i.i (omega arith))
    ∙ c.loop-i.invariant.whole
