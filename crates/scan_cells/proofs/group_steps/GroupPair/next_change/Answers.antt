use Rattle.std.proofs.Common.{◌≢◌, bit_and, sym, subst}
use Rattle.cell_machine.specs.CellData.{data_of}
use Rattle.scan_cells.specs.Views.{view_data}
use Rattle.scan_cells.proofs.MixedPoints.{mixed_change}
use Rattle.scan_cells.proofs.group_steps.GroupPair.next_change.Goals as goal

pub returns-then-is_mixed : goal.returns-then-is_mixed
returns-then-is_mixed c =
    let self = c.args.self.now in
    sym (mixed_change (data_of self.cell.now) (view_data self.over.view.now) self.group c.args.after c.args.k self.over.cell_mask self.over.view_mask
    self.over.places self.are_places self.is_cell_mask self.is_view_mask
    (subst (λ p. bit_and p self.over.cell_mask ≢ p) c.changed_at-before.ensures (c.is_mixed.ensures.first c.if-is_mixed.true))
    (subst (λ p. bit_and p self.over.view_mask ≢ p) c.changed_at-before.ensures (c.is_mixed.ensures.second c.if-is_mixed.true))
    c.requires.place c.requires.before c.requires.unchanged c.requires.idle)
