use Rattle.std.proofs.Common.{◌∙◌}
use Rattle.scan_cells.specs.Comparison.{view_step}
use Rattle.scan_cells.proofs.WeightLemmas.{are_steps}
use Rattle.scan_cells.proofs.group_steps.GroupPair.view_steps.Goals as goal

pub returns : goal.returns
unfolding view_step
returns c = c.steps.ensures ∙ are_steps _ _ _ _ _ _ c.args.before c.args.after c.args.self.now.tells_view c.args.self.now.are_places
