use Rattle.std.proofs.Common.{◌≡◌, ◌-◌, length}
use Rattle.std.specs.List.{range_with_len}
use Rattle.cell_machine.specs.CellData.{data_of}
use Rattle.scan_cells.specs.Views.{view_data}
use Rattle.scan_cells.specs.Places.{changed_at}
use Rattle.scan_cells.specs.Comparison.{first_some, change_difference}
use Rattle.scan_cells.proofs.group_steps.GroupPair.changed_difference.Given as goal

-- the first one is among the rest
abbrev pub invariant-loop-k : goal.invariant-loop-k
invariant-loop-k l =
    first_some (λ k. change_difference (data_of l.self.cell.now) (view_data l.self.over.view.now) l.self.group l.after (changed_at l.after k))
    (range_with_len l.k (length l.self.over.places - l.k))
    ≡ first_some (λ k. change_difference (data_of l.self.cell.now) (view_data l.self.over.view.now) l.self.group l.after (changed_at l.after k))
    (range_with_len 0 (length l.self.over.places))
