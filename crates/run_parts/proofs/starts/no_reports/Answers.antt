use Rattle.std.proofs.Common.{◌∙◌}
use Rattle.run_parts.proofs.starts.no_reports.Goals as goal

pub returns : goal.returns
returns c = c.from_vec.ensures ∙ c.in_ok-reports.ensures.items_if_clones_equal (λ y e. e)
