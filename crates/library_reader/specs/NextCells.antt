-- The next cell of a library as it is read.
use Rattle.std.specs.Prelude.{◌≡◌, List, ℕ, Some, None}
use Rattle.liberty_groups.specs.declared.tree.Group.{Group}
use Rattle.three_state_cells.specs.declared.driven_cell.DrivenCell.{DrivenCell}
use Rattle.three_state_cells.specs.DrivenCells.{driven_data_of}
use Rattle.library_reader.specs.declared.progress.Progress.{Progress}
use Rattle.library_reader.specs.declared.next.NextCell.{NextCell}
use Rattle.library_reader.specs.declared.next.NextCell.TheVariants as next
use Rattle.library_reader.specs.Progress.{next_refusal, next_data, next_entity}

-- nothing refuses the next cell, and this is what was read of it
pub record IsAcceptedNext (p : Progress) (group : Group) (cell : DrivenCell) (entity : List ℕ) : Type 0 where
  pub unrefused : next_refusal p group ≡ None
  pub same_cell : driven_data_of cell ≡ next_data p group
  pub same_entity : entity ≡ next_entity p group

-- this is the next cell, or why it is refused
abbrev pub IsNext : Progress → Group → NextCell → Type 0
IsNext p group (next.Accepted cell entity) = IsAcceptedNext p group cell entity
IsNext p group (next.Refused refusal) = next_refusal p group ≡ Some refusal
