use Rattle.std.proofs.Common.{rules}
use Rattle.std.proofs.lemmas.List.{take_rest}
use Rattle.wave_reports.proofs.PieceLemmas.{no_cut, cut_at_last}
use Rattle.wave_reports.proofs.pieces.cut_last.Goals as goal

pub returns-in-Some : goal.returns-in-Some
returns-in-Some c =
    let found = cut_at_last c.args.at c.args.text.now c.in-Some.place (search rules) (search rules) (search rules) in
    record { before = rw found; after = rw (found, take_rest) }

pub returns-in-None : goal.returns-in-None
returns-in-None c =
    let none = no_cut c.args.at c.args.text.now (search rules) in
    record { before = rw none; after = rw none }
