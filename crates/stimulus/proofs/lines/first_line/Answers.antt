use Rattle.std.proofs.Common.{sym}
use Rattle.std.proofs.lemmas.List.{take_rest}
use Rattle.stimulus.proofs.Cuts.{line_found, last_line}
use Rattle.stimulus.proofs.lines.first_line.Goals as goal

pub returns-in-Some-clause-line : goal.returns-in-Some-clause-line
returns-in-Some-clause-line c = rw (c.without_return.ensures, take_rest) (line_found c.args.text.now c.in-Some.at (sym c.in-Some.ensures))

pub returns-in-None-clause-line : goal.returns-in-None-clause-line
returns-in-None-clause-line c = last_line c.args.text.now (sym c.in-None.ensures)
