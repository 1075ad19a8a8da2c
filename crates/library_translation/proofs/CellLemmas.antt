-- The next cell of a library.
use Rattle.std.proofs.Common.{◌≡◌, ℕ, List, Some, subst, ◌∙◌, ap}
use Rattle.liberty_groups.specs.declared.tree.Group.{Group}
use Rattle.cell_reader.specs.declared.refusal.Refusal.{Refusal}
use Rattle.three_state_cells.specs.declared.driven_cell.DrivenCell.{DrivenCell}
use Rattle.three_state_cells.specs.DrivenCells.{driven_data_of}
use Rattle.cell_attributes.specs.Groups.{cell_name}
use Rattle.library_reader.specs.ReportLines.{refused_line}
use Rattle.library_reader.specs.declared.progress.Progress.{Progress}
use Rattle.library_reader.specs.Progress.{next_number, next_refusal, next_entity}
use Rattle.library_reader.specs.NextCells.{IsAcceptedNext, IsNext}
use Rattle.library_reader.specs.declared.next.NextCell.{NextCell}
use Rattle.library_reader.specs.declared.next.NextCell.TheVariants as next
use Rattle.run_outcome.specs.Written.{in_report}
use Rattle.library_translation.specs.Cells.{accepted_written, written_by}

-- the next cell, or why it is refused
pub accepted_of : (p : Progress) (group : Group) (found : NextCell) (cell : DrivenCell) (entity : List ℕ)
    → found ≡ next.Accepted cell entity
    → IsNext p group found → IsAcceptedNext p group cell entity
accepted_of p group found cell entity e h = subst (IsNext p group) e h

pub refused_of : (p : Progress) (group : Group) (found : NextCell) (refusal : Refusal) → found ≡ next.Refused refusal
    → IsNext p group found
    → next_refusal p group ≡ Some refusal
refused_of p group found refusal e h = subst (IsNext p group) e h

-- nothing refuses the next cell
pub accepted_written_as : (p : Progress) (group : Group) (cell : DrivenCell) (entity : List ℕ)
    → IsAcceptedNext p group cell entity
    → accepted_written entity (driven_data_of cell) group ≡ written_by p group (next_refusal p group)
accepted_written_as p group cell entity h =
    rw h.unrefused (ap (λ name. accepted_written name (driven_data_of cell) group) h.same_entity
    ∙ ap (λ cell. accepted_written (next_entity p group) cell group) h.same_cell)

-- something does
pub refused_written_as : (p : Progress) (group : Group) (number : ℕ) (name : List ℕ) (refusal : Refusal)
    → number ≡ next_number p → name ≡ cell_name group → next_refusal p group ≡ Some refusal
    → in_report (refused_line number name refusal) ≡ written_by p group (next_refusal p group)
refused_written_as p group number name refusal n m e =
    rw e (ap (λ k. in_report (refused_line k name refusal)) n ∙ ap (λ t. in_report (refused_line (next_number p) t refusal)) m)
