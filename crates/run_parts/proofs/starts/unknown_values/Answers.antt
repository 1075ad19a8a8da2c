use Rattle.std.proofs.Common.{◌∙◌}
use Rattle.run_parts.proofs.starts.unknown_values.Goals as goal

pub returns : goal.returns
returns c = c.from_vec.ensures ∙ c.in_ok-values.ensures.items_if_clones_equal (λ y e. e)
