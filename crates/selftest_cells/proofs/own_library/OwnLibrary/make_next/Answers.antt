use Rattle.std.proofs.Common.{refl, arith}
use Rattle.selftest_cells.proofs.LibraryText.{cell_text_is_some}
use Rattle.selftest_cells.proofs.own_library.OwnLibrary.make_next.Goals as goal
use Rattle.selftest_cells.proofs.own_library.OwnLibrary.make_next.Goals.{then-self+in_ok-self, else-self+in_ok-self-2}

pub returns-clause-piece : goal.returns-clause-piece
returns-clause-piece c =
    elim c.if-self.branch [ then-self+in_ok-self w ↦ rw w.self-is (refl, rw w.in_ok-self.ensures (cell_text_is_some _)) | else-self+in_ok-self-2 w ↦ rw w.self-is (refl, rw w.in_ok-self-2.ensures.items omega (arith)) ]
