use Rattle.std.proofs.Common.{◌∙◌}
use Rattle.scan_cells.specs.Comparison.{view_output}
use Rattle.scan_cells.proofs.WeightLemmas.{is_value}
use Rattle.scan_cells.proofs.output_values.OutputPair.view_output.Goals as goal

pub returns : goal.returns
unfolding view_output
returns c = c.value.ensures ∙ is_value _ _ _ _ _ _ c.args.point c.args.self.now.tells_view c.args.self.now.are_places
