-- The accepted cells that are kept of a library are those that are translated, named as these: a cell that is accepted has a new
-- name, so it is kept.
use Rattle.std.proofs.Common.{◌≡◌, ℕ, Bool, true, false, List, [], ◌∷◌, ◌++◌, refl, ap, subst, Option, Some, None, is_some}
use Rattle.std.proofs.Common.{if◌then◌else◌}
use Rattle.library_simulation.specs.file_models.bool_functions.NameList.{number_of}
use Rattle.written_driven_models.specs.liberty_groups.declared.tree.Group.{Group}
use Rattle.cell_attributes.specs.Groups.{cell_name}
use Rattle.cell_reader.specs.declared.refusal.Refusal.{Refusal}
use Rattle.cell_cursor.specs.declared.item.LibraryItem.{LibraryItem}
use Rattle.cell_cursor.specs.declared.item.LibraryItem.TheVariants as item
use Rattle.cell_cursor.specs.Ends.{items_within}
use Rattle.written_driven_models.specs.vhdl_tokens.Kept.{lowered}
use Rattle.written_driven_models.specs.three_state_cells.DrivenCells.{DrivenData, may_float}
use Rattle.written_driven_models.specs.VitalLibrary.{model_name}
use Rattle.library_simulation.specs.library_reader.LibraryCells.{CellEntry, Accepted, Refused}
use Rattle.library_simulation.specs.library_reader.declared.progress.Progress.{Progress}
use Rattle.library_simulation.specs.library_reader.Progress.{no_progress, next_bits, next_refusal, next_data, next_entity}
use Rattle.library_simulation.specs.library_reader.Progress.{entity_by}
use Rattle.library_simulation.specs.library_reader.Progress.{after_cell, after_item}
use Rattle.library_simulation.specs.library_reader.KeptCells.{kept_by, kept_cells}
use Rattle.library_simulation.specs.library_reader.Endings.{library_limit}
use Rattle.library_simulation.proofs.library_reader.CellLemmas.{bits_name, bits_unrefused}
use Rattle.translate_cmd.specs.TranslatedModels.{cells_by, accepted_cells, cells_in}
use Rattle.translate_cmd.proofs.ReadCells.{name_is_new}
use Rattle.translate_cmd.proofs.EntityNames.{AreAlike, its_entity, alike_after}

-- the accepted cells among these
abbrev pub accepted_of : List CellEntry → List DrivenData
accepted_of [] = []
accepted_of (Accepted cell entity ∷ cells) = cell ∷ accepted_of cells
accepted_of (Refused name refusal ∷ cells) = accepted_of cells

-- the VITAL model of each accepted cell has the name that it is given behind those before it and behind models with these names
abbrev pub AreNamedBehind : List (List ℕ) → List CellEntry → Type 0
AreNamedBehind given [] = Unit {0}
AreNamedBehind given (Accepted cell entity ∷ cells) =
    (entity ≡ model_name (may_float cell) given cell)
    × AreNamedBehind (given ++ lowered (model_name (may_float cell) given cell) ∷ []) cells
AreNamedBehind given (Refused name refusal ∷ cells) = AreNamedBehind given cells

-- what is kept are these cells, so named
record AreKept (given : List (List ℕ)) (cells : List DrivenData) (kept : List CellEntry) : Type 0 where
  same : accepted_of kept ≡ cells
  named : AreNamedBehind given kept

new_name : (p : Progress) (group : Group) → next_refusal p group ≡ None → is_some (number_of p.names (cell_name group)) ≡ false
new_name p group e =
    subst (λ (name : List ℕ). is_some (number_of p.names name) ≡ false) (bits_name p group)
    (name_is_new p.unit p.names 0 (next_bits p group) (bits_unrefused p group e))

-- what holds of items behind any others
abbrev Follow : List LibraryItem → Type 0
Follow items = (p : Progress) (given : List (List ℕ)) → AreAlike given p.entities
    → AreKept given (accepted_cells p items) (kept_cells p items)

cell_kept :
    (p : Progress) (group : Group) (items : List LibraryItem) (given : List (List ℕ)) → Follow items → AreAlike given p.entities
    → (known : Bool) (o : Option Refusal) → (o ≡ None → known ≡ false)
    → AreKept given (cells_by p group o ++ accepted_cells (after_cell p (cell_name group) (entity_by p group o)) items)
    ((if known then [] else kept_by p group o ∷ []) ++ kept_cells (after_cell p (cell_name group) (entity_by p group o)) items)
cell_kept p group items given follow h true None new = absurd (let b : true ≡ false = new refl in cc)
cell_kept p group items given follow h false None new =
    let cell : DrivenData = next_data p group in
    let rest = follow (after_cell p (cell_name group) (Some (next_entity p group)))
    (given ++ lowered (model_name (may_float cell) given cell) ∷ []) (alike_after p group given h) in
    record { same = ap (λ (cells : List DrivenData). cell ∷ cells) rest.same; named = (its_entity p group given h, rest.named) }
cell_kept p group items given follow h true (Some refusal) new = follow (after_cell p (cell_name group) None) given h
cell_kept p group items given follow h false (Some refusal) new =
    let rest = follow (after_cell p (cell_name group) None) given h in
    record { same = rest.same; named = rest.named }

all_kept : (items : List LibraryItem) → Follow items
all_kept [] p given h = record { same = refl; named = tt }
all_kept (item.Cell group ∷ items) p given h =
    cell_kept p group items given (all_kept items) h (is_some (number_of p.names (cell_name group))) (next_refusal p group)
    (new_name p group)
all_kept (item.Unit line ∷ items) p given h = all_kept items (after_item p (item.Unit line)) given h
all_kept (item.LeftOut at ∷ items) p given h = all_kept items p given h
all_kept (item.BusType group ∷ items) p given h = all_kept items (after_item p (item.BusType group)) given h

module _ (library : List ℕ) where
  abbrev pub cells_of : List CellEntry
  cells_of = kept_cells no_progress (items_within library_limit library)

  kept : AreKept [] (cells_in library) cells_of
  kept = all_kept (items_within library_limit library) no_progress [] (λ name. refl)

  pub are_accepted : accepted_of cells_of ≡ cells_in library
  are_accepted = kept.same

  pub are_named : AreNamedBehind [] cells_of
  are_named = kept.named
