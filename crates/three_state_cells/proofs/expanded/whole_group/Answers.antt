use Rattle.std.proofs.Common.{◌≡◌, IfOk, subst}
use Rattle.three_state_cells.proofs.ReadLemmas.{made_whole}
use Rattle.three_state_cells.proofs.expanded.whole_group.Goals as goal

pub returns : goal.returns
returns c =
    subst (λ made. IfOk c.with_items.result (λ group. group ≡ made))
    (made_whole c.args.types.now c.args.cell.now _ _ c.new-held.ensures c.in_ok-gather.ensures) c.with_items.ensures
