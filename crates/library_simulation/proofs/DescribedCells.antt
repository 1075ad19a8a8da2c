-- What cells of a library are described as.
use Rattle.std.proofs.Common.{◌≡◌, ◌<◌, ℕ, zero, suc, List, [], ◌∷◌, map, length, get_or, Some, refl, sym, ap, subst, ◌∙◌}
use Rattle.std.specs.Prelude.{slice_get}
use Rattle.std.proofs.lemmas.List.{length-map, get_or-map}
use Rattle.std.proofs.lemmas.List.Elements.{All-cons, All-nil}
use Rattle.three_state_cells.specs.DrivenCells.{driven_data_of}
use Rattle.generated_drivers.proofs.Fitting.{driver_of_cell}
use Rattle.library_reader.specs.declared.library_cell.LibraryCell.{LibraryCell}
use Rattle.library_reader.specs.declared.library_cell.LibraryCell.TheVariants as kept
use Rattle.library_reader.specs.LibraryCells.{Accepted, Refused, described, all_described}
use Rattle.library_simulation.specs.Sections.{HasData, DescribedAreCells}
use Rattle.library_simulation.specs.Generated.{KeepsRules, DescribedKeepRules}

-- an image in a list is that of a thing of the list
pub image_at : {X Y : Type 0} (f : X → Y) (xs : List X) (i : ℕ) (y : Y) → slice_get (map f xs) i ≡ Some y → (x : X)
    × ((slice_get xs i ≡ Some x) × (f x ≡ y))
image_at f [] i y e = absurd cc
image_at f (x ∷ xs) zero y e = let same : f x ≡ y = cc in (x, (refl, same))
image_at f (x ∷ xs) (suc i) y e = image_at f xs i y e

pub described_are_cells : DescribedAreCells
described_are_cells cells number content entity e = let (one, (there, is)) =
    image_at described cells number (Accepted content entity) e in by one there is
  where
    by : (one : LibraryCell) → slice_get cells number ≡ Some one → described one ≡ Accepted content entity
        → HasData cells number content entity
    by (kept.Accepted cell name) there is =
        let same : driven_data_of cell ≡ content = cc in
        let named : name ≡ entity = cc in
        (cell, there ∙ ap (λ n. Some (kept.Accepted cell n)) named, same)
    by (kept.Refused name refusal) there is = absurd cc

pub described_keep_rules : DescribedKeepRules
described_keep_rules [] = All-nil KeepsRules
described_keep_rules (kept.Accepted cell entity ∷ cells) =
    All-cons KeepsRules (Accepted (driven_data_of cell) entity) (all_described cells)
    (record { core = cell.core.sound; driver = driver_of_cell cell })
    (described_keep_rules cells)
described_keep_rules (kept.Refused name refusal ∷ cells) =
    All-cons KeepsRules (Refused name refusal) (all_described cells) tt (described_keep_rules cells)

-- a cell of a list, as one that the list is described to have

pub below_described : (cells : List LibraryCell) (i : ℕ) → i < length cells → i < length (all_described cells)
below_described cells i below = subst (λ n. i < n) (sym (length-map cells described)) below

pub item_described : (cells : List LibraryCell) (i : ℕ) (cell : LibraryCell) → i < length cells → cell ≡ get_or cells i cell
    → described cell ≡ get_or (all_described cells) i (described cell)
item_described cells i cell below e = ap described e ∙ sym (get_or-map described cells i cell (described cell) below)
