use Rattle.std.proofs.Common.{◌∙◌, ap, replicate}
use Rattle.run_parts.proofs.starts.no_times.Goals as goal

pub returns : goal.returns
returns c =
    c.from_vec.ensures ∙ c.in_ok-stamps.ensures.items_if_clones_equal (λ y e. e) ∙ ap (replicate c.args.count) c.none.ensures
