-- The cells that are kept of the items of a library.
use Rattle.std.proofs.Common.{◌≡◌, ℕ, Bool, true, false, List, [], ◌∷◌, ◌++◌, Option, Some, None, is_some, refl, sym, ap, subst}
use Rattle.std.proofs.Common.{◌∙◌, append_assoc, if◌then◌else◌}
use Rattle.std.proofs.lemmas.List.{append-nil, map-append}
use Rattle.std.specs.List.{list_any}
use Rattle.std.proofs.lemmas.Cmp.{nat_list_eq_equiv}
use Rattle.std.proofs.lemmas.Map.Keys.{IsDistinct-push}
use Rattle.bool_functions.proofs.NameLists.{position-none, position-some}
use Rattle.std.specs.Str.{bytes_eq}
use Rattle.bool_functions.specs.NameList.{number_of, AreDistinct}
use Rattle.liberty_groups.specs.declared.tree.Group.{Group}
use Rattle.cell_cursor.specs.declared.item.LibraryItem.{LibraryItem}
use Rattle.cell_cursor.specs.declared.item.LibraryItem.TheVariants as item
use Rattle.cell_attributes.specs.Groups.{cell_name}
use Rattle.cell_reader.specs.declared.refusal.Refusal.{Refusal}
use Rattle.library_reader.specs.LibraryCells.{CellEntry, name_of, cell_names}
use Rattle.library_reader.specs.declared.progress.Progress.{Progress}
use Rattle.library_reader.specs.Progress.{names_with, next_refusal, entity_by, after_cell, after_item, progress_after}
use Rattle.library_reader.specs.KeptCells.{kept_by, next_entry, item_kept, kept_cells}
use Rattle.library_reader.proofs.CellLemmas.{next_name}

-- what is kept of some items, and then of others
kept_cells-append : (p : Progress) (xs ys : List LibraryItem)
    → kept_cells p (xs ++ ys) ≡ kept_cells p xs ++ kept_cells (progress_after p xs) ys
kept_cells-append p [] ys = refl
kept_cells-append p (x ∷ xs) ys =
    ap (λ cells. item_kept p x ++ cells) (kept_cells-append (after_item p x) xs ys) ∙ sym (append_assoc (item_kept p x) _ _)

-- one item more
pub kept_cells-more : (p q : Progress) (xs : List LibraryItem) (x : LibraryItem) → q ≡ progress_after p xs
    → kept_cells p xs ++ item_kept q x ≡ kept_cells p (xs ++ x ∷ [])
kept_cells-more p q xs x e =
    ap (λ r. kept_cells p xs ++ item_kept r x) e
    ∙ ap (λ cells. kept_cells p xs ++ cells) (sym (append-nil (item_kept (progress_after p xs) x)))
    ∙ sym (kept_cells-append p xs (x ∷ []))

-- The names of the cells that are kept are those of all cells so far, each once.

names_after : (p : Progress) (name : List ℕ) (entity : Option (List ℕ))
    → (after_cell p name entity).names ≡ names_with p.names name
names_after p name (Some entity) = refl
names_after p name None = refl

its_name : (p : Progress) (group : Group) (o : Option Refusal) → name_of (kept_by p group o) ≡ cell_name group
its_name p group None = next_name p group
its_name p group (Some refusal) = refl

cell_named : (p : Progress) (group : Group) (cells : List CellEntry) (b : Bool) → cell_names cells ≡ p.names
    → cell_names (cells ++ (if b then [] else next_entry p group ∷ [])) ≡ (if b then p.names else p.names ++ cell_name group ∷ [])
cell_named p group cells true e = ap cell_names (append-nil cells) ∙ e
cell_named p group cells false e =
    map-append name_of cells (next_entry p group ∷ []) ∙ ap (λ names. names ++ name_of (next_entry p group) ∷ []) e
    ∙ ap (λ name. p.names ++ name ∷ []) (its_name p group (next_refusal p group))

pub item_named : (p : Progress) (x : LibraryItem) (cells : List CellEntry) → cell_names cells ≡ p.names
    → cell_names (cells ++ item_kept p x) ≡ (after_item p x).names
item_named p (item.Cell group) cells e =
    cell_named p group cells (is_some (number_of p.names (cell_name group))) e
    ∙ sym (names_after p (cell_name group) (entity_by p group (next_refusal p group)))
item_named p (item.Unit line) cells e = ap cell_names (append-nil cells) ∙ e
item_named p (item.LeftOut at) cells e = ap cell_names (append-nil cells) ∙ e
item_named p (item.BusType group) cells e = ap cell_names (append-nil cells) ∙ e

-- None of them stands twice.

some_there : (o : Option ℕ) → (o ≡ None → ⊥) → is_some o ≡ true
some_there None h = absurd (h refl)
some_there (Some n) h = refl

names_apart_by : (names : List (List ℕ)) (name : List ℕ) → AreDistinct names → (b : Bool) → list_any (bytes_eq name) names ≡ b
    → AreDistinct (names_with names name)
names_apart_by names name h true e =
    let there : is_some (number_of names name) ≡ true = some_there (number_of names name) (position-some (bytes_eq name) names e)
    in
    subst (λ b. AreDistinct (if b then names else names ++ name ∷ [])) (sym there) h
names_apart_by names name h false e =
    let absent : is_some (number_of names name) ≡ false = ap is_some (position-none (bytes_eq name) names e) in
    subst (λ b. AreDistinct (if b then names else names ++ name ∷ [])) (sym absent)
    (IsDistinct-push nat_list_eq_equiv names name h e)

names_apart : (names : List (List ℕ)) (name : List ℕ) → AreDistinct names → AreDistinct (names_with names name)
names_apart names name h = names_apart_by names name h (list_any (bytes_eq name) names) refl

pub item_apart : (p : Progress) (x : LibraryItem) → AreDistinct p.names → AreDistinct (after_item p x).names
item_apart p (item.Cell group) h =
    subst AreDistinct (sym (names_after p (cell_name group) (entity_by p group (next_refusal p group))))
    (names_apart p.names (cell_name group) h)
item_apart p (item.Unit line) h = h
item_apart p (item.LeftOut at) h = h
item_apart p (item.BusType group) h = h
