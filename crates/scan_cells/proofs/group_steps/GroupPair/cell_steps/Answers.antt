use Rattle.std.proofs.Common.{◌∙◌}
use Rattle.scan_cells.specs.Comparison.{cell_step}
use Rattle.scan_cells.proofs.WeightLemmas.{are_steps}
use Rattle.scan_cells.proofs.group_steps.GroupPair.cell_steps.Goals as goal

pub returns : goal.returns
unfolding cell_step
returns c = c.steps.ensures ∙ are_steps _ _ _ _ _ _ c.args.before c.args.after c.args.self.now.tells_cell c.args.self.now.are_places
