use Rattle.std.proofs.Common.{ap, map, sym, ◌∙◌}
use Rattle.std.proofs.lemmas.List.{drop-map, take_rest}
use Rattle.three_state_cells.specs.Trimmed.{are_behind}
use Rattle.three_state_cells.proofs.trimming.are_behind.Goals as goal

pub returns : goal.returns
returns c =
    c.first_stands_first.ensures
    ∙ (ap (λ behind. are_behind (map (λ owner. owner.now) behind)) (take_rest c.args.owners.now 64)
    ∙ ap are_behind (sym (drop-map (λ owner. owner.now) 64 c.args.owners.now)))
