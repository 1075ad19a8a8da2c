use Rattle.cell_cursor.proofs.Ascending.{items_ascend}
use Rattle.cell_cursor.proofs.laws.items_ascend.Goals as goal

pub returns : goal.returns
returns c = items_ascend c.args.bytes.now
