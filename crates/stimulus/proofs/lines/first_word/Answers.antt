use Rattle.std.proofs.Common.{sym}
use Rattle.std.proofs.lemmas.List.{take_rest}
use Rattle.stimulus.proofs.Cuts.{no_word, word_found, last_word}
use Rattle.stimulus.proofs.lines.first_word.Goals as goal

pub returns-in_err-start : goal.returns-in_err-start
returns-in_err-start c = rw c.from_residual.ensures (no_word c.args.text.now (sym c.in_err-start.ensures))

pub returns-in-Some : goal.returns-in-Some
returns-in-Some c = rw (c.split_at.ensures.front, c.split_at.ensures.back) (word_found c.args.text.now _ c.in_ok-start.start c.in-Some.end (sym c.in_ok-start.ensures) (take_rest c.args.text.now c.in_ok-start.start) (sym c.in-Some.ensures))

pub returns-in-None : goal.returns-in-None
returns-in-None c = last_word c.args.text.now _ c.in_ok-start.start (sym c.in_ok-start.ensures) (take_rest c.args.text.now c.in_ok-start.start) (sym c.in-None.ensures)
