use Rattle.std.proofs.Common.{map}
use Rattle.statetables.proofs.Widths.{All-read_rows}
use Rattle.statetables.proofs.read.read_table.Goals as goal

pub returns-clause-rectangular : goal.returns-clause-rectangular
returns-clause-rectangular c = All-read_rows 1 c.args.inputs c.args.nodes (map (λ text. text.now) c.deref.result.now) c.in_ok-rows.rows c.in_ok-rows.ensures
