use Rattle.std.proofs.Common.{refl}
use Rattle.cell_cursor.proofs.StandsLemmas.{stands_first}
use Rattle.cell_cursor.proofs.cursor.CellCursor.new.Goals as goal

pub returns-clause-stands : goal.returns-clause-stands
returns-clause-stands c = stands_first _ refl c.new-3.ensures.items refl c.new-2.ensures.before c.new-2.ensures.bytes c.new-2.ensures.tokens c.new.ensures
