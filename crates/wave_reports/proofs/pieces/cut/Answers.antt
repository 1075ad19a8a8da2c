use Rattle.std.proofs.Common.{sym}
use Rattle.std.proofs.lemmas.List.{take_rest}
use Rattle.wave_reports.proofs.PieceLemmas.{piece_found, last_piece}
use Rattle.wave_reports.proofs.pieces.cut.Goals as goal

pub returns-in-Some-clause-pieces : goal.returns-in-Some-clause-pieces
returns-in-Some-clause-pieces c = rw take_rest (piece_found c.args.at c.args.text.now c.in-Some.end (sym c.in-Some.ensures))

pub returns-in-None-clause-pieces : goal.returns-in-None-clause-pieces
returns-in-None-clause-pieces c = last_piece c.args.at c.args.text.now (sym c.in-None.ensures)
