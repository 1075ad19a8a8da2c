use Rattle.std.proofs.Common.{refl}
use Rattle.cell_cursor.proofs.AdvanceLemmas.{settles_stop, settles_step}
use Rattle.cell_cursor.proofs.cursor.CellCursor.go_on.Goals as goal

pub returns-in-Err-clause-moves : goal.returns-in-Err-clause-moves
returns-in-Err-clause-moves g c =
    settles_stop c.args.self.now c.advance.new.self _ _ _ c.in-Err.stop c.requires.going c.requires.none_waits c.in-Err.ensures.advances refl refl refl

pub returns-in_default-clause-moves : goal.returns-in_default-clause-moves
returns-in_default-clause-moves g c = settles_step c.args.self.now c.advance.new.self _ _ c.requires.going c.requires.none_waits c.in_default.ensures.advances
