use Rattle.std.proofs.Common.{◌≡◌, ◌+◌, ◌<◌, sym, arith, get_or}
use Rattle.std.proofs.lemmas.Bool.Decides.{nat_tests}
use Rattle.std.proofs.lemmas.List.{take_rest}
use Rattle.stimulus.proofs.PlainLines.{word_is}
use Rattle.stimulus.proofs.plain_changes.word_ahead.Goals as goal

pub returns : goal.returns
returns c =
    let some : 0 < c.in_ok-end.end = grind (arith, nat_tests, c.if-end-eq0.false) in
    let space : get_or c.args.text.now c.in_ok-end.end 0 ≡ 32 = grind (arith, nat_tests, c.if-text-end-ne32.false) in
    rw (take_rest c.args.text.now (c.in_ok-end.end + 1)) (word_is c.args.text.now c.in_ok-end.end (sym c.in_ok-end.ensures) some space)
