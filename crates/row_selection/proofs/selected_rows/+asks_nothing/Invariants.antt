use Rattle.std.proofs.Common.{length}
use Rattle.row_selection.proofs.selected_rows.+asks_nothing.Given as goal

abbrev pub decreases-asks_nothing : goal.decreases-asks_nothing
decreases-asks_nothing l = length l.order.now
