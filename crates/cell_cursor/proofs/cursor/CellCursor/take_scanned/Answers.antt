use Rattle.std.proofs.Common.{Bool, refl, subst, ap}
use Rattle.cell_cursor.specs.Progress.{may_have_ended}
use Rattle.cell_cursor.specs.Stands.{GoesBy}
use Rattle.cell_cursor.proofs.Cutting.{going_as}
use Rattle.cell_cursor.proofs.cursor.CellCursor.take_scanned.Goals as goal

pub returns-in-All-clause-stands : goal.returns-in-All-clause-stands
returns-in-All-clause-stands c = λ bytes items g.
    going_as c.args.self.now c.args.self.now c.requires.going c.requires.none_waits refl refl refl refl refl refl bytes items
    (subst (λ (b : Bool). GoesBy b c.args.self.now bytes items) (ap may_have_ended c.in-All.is) g)
