use Rattle.cell_cursor.proofs.TakingLemmas.{takes_same, takes_read}
use Rattle.cell_cursor.proofs.piece.Piece.read.Goals as goal

pub returns-in_err-count-clause-takes : goal.returns-in_err-count-clause-takes
returns-in_err-count-clause-takes g c = takes_same _ _ c.in_err-count.ensures.err

pub returns-clause-takes : goal.returns-clause-takes
returns-clause-takes g c = takes_read _ _ _ _ _ c.in_ok-count.ensures.at_most c.in_ok-count.ensures.ok c.in_ok-count.ensures.front
