use Rattle.std.proofs.Common.{◌≤◌, arith}
use Rattle.std.proofs.lemmas.Grind.{common_steps}
use Rattle.timing_arcs.proofs.PlainEntries.{digit_more}
use Rattle.timing_arcs.proofs.plain_entries.digits_behind.Goals as goal

pub overflow_mul-number : goal.overflow_mul-number
overflow_mul-number c =
    let h = digit_more c.loop-at.number c.args.room c.loop-at.at 0 c.loop-at.invariant.fits c.if-at-room.false c.requires.room
    (omega arith) in
    omega (arith, h.1)

pub overflow_add-number : goal.overflow_add-number
overflow_add-number c =
    let digit : c.from.result ≤ 9 = grind (arith, common_steps) in
    let h = digit_more c.loop-at.number c.args.room c.loop-at.at c.from.result c.loop-at.invariant.fits c.if-at-room.false
    c.requires.room digit in
    omega (arith, h.1)

pub loop-at-preserved : goal.loop-at-preserved
loop-at-preserved c =
    let digit : c.from.result ≤ 9 = grind (arith, common_steps) in
    let h = digit_more c.loop-at.number c.args.room c.loop-at.at c.from.result c.loop-at.invariant.fits c.if-at-room.false
    c.requires.room digit in
    record {
      count = grind (arith, common_steps);
      spelled = grind (arith, common_steps);
      fits = h.0;
      room = omega (arith, c.if-at-room.false);
    }
