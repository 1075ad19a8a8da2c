use Rattle.std.proofs.Common.{◌≡◌, ◌+◌, ◌<◌, ◌≤◌, ◌^◌, length, get_or, refl, sym, subst, arith}
use Rattle.std.proofs.lemmas.Bool.Decides.{nat_tests}
use Rattle.std.proofs.lemmas.List.{take_rest}
use Rattle.std.proofs.lemmas.List.Elements.{All-nil}
use Rattle.stimulus.proofs.TimeBounds.{below_all}
use Rattle.stimulus.proofs.PlainTimes.{IsDigit, all_more, time_more, below_more, time_is}
use Rattle.stimulus.proofs.plain_changes.time_ahead.Goals as goal

pub loop-end-init : goal.loop-end-init
loop-end-init c = record { digits = All-nil IsDigit; whole = refl; below = omega arith }

pub with_digit-time-requires-clause-small : goal.with_digit-time-requires-clause-small
with_digit-time-requires-clause-small c = below_all _ _ c.loop-end.invariant.below (omega arith)

pub loop-end-preserved : goal.loop-end-preserved
loop-end-preserved c =
    let text = c.args.text.now in
    let inside : c.loop-end.end < length text = omega arith in
    let digit = sym c.if-not-is_digit.ensures in
    record {
      digits = all_more text c.loop-end.end _ inside refl digit c.loop-end.invariant.digits;
      whole =
          time_more text c.loop-end.end _ c.loop-end.time _ inside refl digit c.loop-end.invariant.whole
          c.with_digit-time.ensures;
      below =
          subst (λ t. t < 10 ^ (c.loop-end.end + 1)) (sym c.with_digit-time.ensures)
          (below_more c.loop-end.time c.loop-end.end _ c.loop-end.invariant.below (grind (arith, nat_tests, digit)));
    }

pub returns-then-not-is_digit : goal.returns-then-not-is_digit
returns-then-not-is_digit c =
    let text = c.args.text.now in
    let inside : c.loop-end.end < length text = omega arith in
    let some : 0 < c.loop-end.end = grind (arith, nat_tests, c.if-end-eq0.false) in
    let short : c.loop-end.end ≤ 15 = omega arith in
    let space : get_or text c.loop-end.end 0 ≡ 32 = grind (arith, nat_tests, c.if-byte-ne32.false) in
    rw (take_rest text (c.loop-end.end + 1))
    (time_is text c.loop-end.end c.loop-end.time inside some short space c.loop-end.invariant.digits c.loop-end.invariant.whole)
