use Rattle.std.proofs.Common.{◌≡◌, drop}
use Rattle.std.specs.List.{list_all}
use Rattle.three_state_cells.specs.Trimmed.{is_behind, all_behind}
use Rattle.three_state_cells.proofs.trimming.all_behind.Given as goal

abbrev pub invariant-loop-item : goal.invariant-loop-item
invariant-loop-item l = list_all (is_behind l.at) (drop l.item-index l.group.items) ≡ all_behind l.at l.group
