use Rattle.std.proofs.Common.{◌+◌, ◌<◌, ◌≤◌, sym, ap, ◌∙◌, Ok, arith, rules}
use Rattle.timing_arcs.proofs.PlainEntries.{IsPlain, plain_length, plain_number, plain_is, too_many, no_point, too_many_behind}
use Rattle.timing_arcs.proofs.PlainEntries.{room_behind, all_fits}
use Rattle.timing_arcs.proofs.plain_entries.plain_entry.Goals as goal

pub digits_behind-requires-2-clause-before : goal.digits_behind-requires-2-clause-before
digits_behind-requires-2-clause-before c = room_behind _ _ c.in_ok-whole.ensures.fits c.in_ok-whole.ensures.room

pub decimal-requires-clause-digits : goal.decimal-requires-clause-digits
decimal-requires-clause-digits c =
    all_fits _ _ _ c.in_ok-all.ensures.fits c.in_ok-all.ensures.room (omega (arith, c.in_ok-whole.ensures.room))

pub returns-in_err-whole-clause-plain : goal.returns-in_err-whole-clause-plain
returns-in_err-whole-clause-plain c = rw c.from_residual.ensures (too_many c.args.text.now c.in_err-whole.ensures.room)

pub returns-in_err-fraction-clause-plain : goal.returns-in_err-fraction-clause-plain
returns-in_err-fraction-clause-plain c =
    rw c.from_residual-in_err-fraction.ensures
    (no_point c.args.text.now _ _ c.in_ok-whole.ensures.count c.split_at.ensures.back c.in_err-fraction.ensures)

pub returns-in_err-all-clause-plain : goal.returns-in_err-all-clause-plain
returns-in_err-all-clause-plain c =
    rw c.from_residual-in_err-all.ensures
    (too_many_behind c.args.text.now _ _ c.in_ok-whole.ensures.count
    (sym c.split_at.ensures.back ∙ c.in_ok-fraction.ensures) c.in_err-all.ensures.room)

pub returns : goal.returns
returns c =
    let seen : IsPlain c.args.text.now _ _ _ _ = record {
      count_is = c.in_ok-whole.ensures.count;
      within = c.in_ok-whole.ensures.within;
      point = sym c.split_at.ensures.back ∙ c.in_ok-fraction.ensures;
      places_is = c.in_ok-all.ensures.count;
      inside = c.in_ok-all.ensures.within;
      behind_is = c.split_at-2.ensures.back;
      ends = sym c.is_end.ensures ∙ c.if-not-is_end.false;
    } in
    let some : 0 < c.in_ok-whole.whole.count + c.in_ok-all.all.count = omega (arith, c.if-digits-eq0.false) in
    let few : c.in_ok-whole.whole.count + c.in_ok-all.all.count ≤ 18 = omega (arith, c.in_ok-whole.ensures.room, c.in_ok-all.ensures.room) in
    record {
      plain = plain_is c.args.text.now _ _ _ _ seen some few;
      length = plain_length c.args.text.now _ _ _ _ seen;
      within = search rules;
      number = plain_number c.args.text.now _ _ _ _ _ _ seen c.in_ok-whole.ensures.number c.in_ok-all.ensures.number some few
          ∙ ap Ok (sym c.decimal.ensures);
    }
