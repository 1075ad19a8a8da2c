use Rattle.std.proofs.Common.{ap, ◌∙◌}
use Rattle.liberty_groups.specs.Answer.{found_in}
use Rattle.cell_cursor.specs.Items.{items_outcome}
use Rattle.cell_cursor.proofs.Gathers.{outcome_listed, found_listed}
use Rattle.cell_cursor.proofs.laws.items_are_found.Goals as goal

pub returns : goal.returns
returns c = ap found_in (outcome_listed c.args.bytes.now) ∙ found_listed (items_outcome c.args.bytes.now)
