-- The lines of cells, appended to the report one behind another.
use Rattle.std.proofs.Common.{◌≡◌, ◌<◌, ◌≤◌, ℕ, ◌+◌, Bool, ◌||◌, List, get_or, take, length, flat_map, Result, Err, IsErr, sym}
use Rattle.std.proofs.Common.{ap, subst, ◌∙◌}
use Rattle.std.specs.List.{list_any}
use Rattle.std.proofs.lemmas.List.{take_all}
use Rattle.std.proofs.lemmas.List.Folds.{list_any_more, flat_map-map}
use Rattle.bool_functions.proofs.NameLists.{list_any-map}
use Rattle.text_io.specs.declared.slots.OutSlot.TheVariants.{Report}
use Rattle.text_io.specs.declared.stop.Stop.{Stop}
use Rattle.text_io.specs.Desk.{DeskState, wrote}
use Rattle.text_io.proofs.Wrote.{wrote_items}
use Rattle.library_reader.specs.declared.library_cell.LibraryCell.{LibraryCell}
use Rattle.library_reader.specs.LibraryCells.{described, all_described}
use Rattle.specify_blocks.specs.declared.model.VModule.{VModule}
use Rattle.file_models.specs.declared.file_model.FileModel.{FileModel}
use Rattle.stimulus.specs.Writes.{WritesTrace}
use Rattle.stimulus.proofs.Runs.{part_of_item}
use Rattle.library_audit.specs.Audits.{audit_text, audits_text, differs, any_differs}

-- the line of a cell, and whether it differs
abbrev pub cell_text : List (FileModel VModule) → LibraryCell → List ℕ
cell_text models cell = audit_text models (described cell)

abbrev pub cell_differs : List (FileModel VModule) → LibraryCell → Bool
cell_differs models cell = differs models (described cell)

-- all of them are the lines of the library
all_lines : (models : List (FileModel VModule)) (cells : List LibraryCell)
    → flat_map (cell_text models) cells ≡ audits_text models (all_described cells)
unfolding audits_text
all_lines models cells = sym (flat_map-map (audit_text models) described cells)

pub lines_whole : (models : List (FileModel VModule)) (cells : List LibraryCell) (i : ℕ) (s now : DeskState) → length cells ≤ i
    → now ≡ wrote s Report (flat_map (cell_text models) (take i cells))
    → now ≡ wrote s Report (audits_text models (all_described cells))
lines_whole models cells i s now over e = wrote_items (cell_text models) cells i s now Report over e
    ∙ ap (wrote s Report) (all_lines models cells)

-- a stop within one of them
pub lines_part : {S T : Type 0} (models : List (FileModel VModule)) (cells : List LibraryCell) (i : ℕ) (x : LibraryCell)
    (s now new : DeskState) (y : Stop) (r : Result T Stop)
    → i < length cells → x ≡ get_or cells i x → now ≡ wrote s Report (flat_map (cell_text models) (take i cells))
    → WritesTrace {T = S} now new (cell_text models x) (Err y) → IsErr r
    → WritesTrace s new (audits_text models (all_described cells)) r
lines_part models cells i x s now new y r h is before item e =
    subst (λ text. WritesTrace s new text r) (all_lines models cells)
    (part_of_item (cell_text models) cells i x s now new y r h is before item e)

-- whether one cell more differs, or one before it
pub differs_more : (models : List (FileModel VModule)) (cells : List LibraryCell) (i : ℕ) (x : LibraryCell) (before here : Bool)
    → i < length cells → x ≡ get_or cells i x
    → before ≡ list_any (cell_differs models) (take i cells) → here ≡ cell_differs models x
    → (before || here) ≡ list_any (cell_differs models) (take (i + 1) cells)
differs_more models cells i x before here h is so_far one =
    let there : here ≡ cell_differs models (get_or cells i x) = one ∙ ap (cell_differs models) is in
    (λ k. so_far k || there k) ∙ sym (list_any_more (cell_differs models) cells i x h)

-- whether some cell differs
pub differs_whole : (models : List (FileModel VModule)) (cells : List LibraryCell) (i : ℕ) (found : Bool) → length cells ≤ i
    → found ≡ list_any (cell_differs models) (take i cells)
    → found ≡ any_differs models (all_described cells)
differs_whole models cells i found over so_far =
    so_far ∙ ap (list_any (cell_differs models)) (take_all i cells over) ∙ sym (list_any-map described (differs models) cells)
