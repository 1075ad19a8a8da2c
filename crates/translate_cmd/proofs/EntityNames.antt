-- The VITAL model of a cell is named by which names are given before it, however these are listed.
use Rattle.std.proofs.Common.{◌≡◌, ℕ, Bool, true, false, ◌&&◌, ◌||◌, not, List, [], ◌∷◌, ◌++◌, codes, refl, sym, ap, subst, ◌∙◌}
use Rattle.std.proofs.Common.{Some, is_some, if◌then◌else◌}
use Rattle.std.specs.List.{list_any}
use Rattle.std.specs.Str.{bytes_eq, str_eq_ignore_ascii_case}
use Rattle.std.proofs.lemmas.List.Folds.{list_any-append}
use Rattle.std.proofs.lemmas.Slice.Eq.{bytes_eq-Decides}
use Rattle.library_simulation.specs.file_models.bool_functions.NameList.{number_of}
use Rattle.written_driven_models.specs.liberty_groups.declared.tree.Group.{Group}
use Rattle.cell_attributes.specs.Groups.{cell_name}
use Rattle.cell_attributes.proofs.Clashes.{found_is}
use Rattle.written_driven_models.specs.vhdl_tokens.Kept.{is_identifier, is_free, is_numbered, lowered}
use Rattle.written_driven_models.specs.vital_models.Kept.{is_kept_entity_name, name_or_numbered, entity_name, driver_name}
use Rattle.written_driven_models.specs.three_state_cells.DrivenCells.{DrivenData, may_float}
use Rattle.written_driven_models.specs.VitalLibrary.{model_name}
use Rattle.library_simulation.specs.library_reader.LibraryCells.{vital_name}
use Rattle.library_simulation.specs.library_reader.declared.progress.Progress.{Progress}
use Rattle.library_simulation.specs.library_reader.Progress.{names_with, next_data, next_entity, after_cell}

-- two lists hold the same names
abbrev pub AreAlike : List (List ℕ) → List (List ℕ) → Type 0
AreAlike given known = (name : List ℕ) → list_any (bytes_eq name) given ≡ list_any (bytes_eq name) known

-- the names of the models so far tell whether VHDL text keeps a name behind them
kept_alike : (given known : List (List ℕ)) (name : List ℕ) → AreAlike given known
    → is_kept_entity_name known name ≡ is_kept_entity_name given name
unfolding is_kept_entity_name
kept_alike given known name h =
    ap (λ (b : Bool). is_identifier name && (is_free name && (not (is_numbered (codes "cell") name) && not b)))
    (found_is known (lowered name) ∙ sym (h (lowered name)) ∙ sym (found_is given (lowered name)))

-- and what the next cell's model is called
named_alike : (given known : List (List ℕ)) (cell : DrivenData) → AreAlike given known
    → vital_name known cell ≡ model_name (may_float cell) given cell
named_alike given known cell h = by (may_float cell)
  where
    by : (b : Bool) → (if b then driver_name cell.core.number known cell.name
        else entity_name cell.core.number known cell.core.name) ≡ model_name b given cell
    by true =
        ap (λ (b : Bool). name_or_numbered (b && not (str_eq_ignore_ascii_case cell.name (codes "driven"))) cell.name
        (codes "vitalz") cell.core.number)
        (kept_alike given known cell.name h)
    by false = ap (λ (b : Bool). name_or_numbered b cell.core.name (codes "cell") cell.core.number)
        (kept_alike given known cell.core.name h)

-- a list that holds a name already holds the same names with it
same_with : (known : List (List ℕ)) (x name : List ℕ) → list_any (bytes_eq x) known ≡ true
    → (list_any (bytes_eq name) known || (bytes_eq name x || false)) ≡ list_any (bytes_eq name) known
same_with known x name e = by (list_any (bytes_eq name) known) (bytes_eq name x) refl refl
  where
    by : (a b : Bool) → list_any (bytes_eq name) known ≡ a → bytes_eq name x ≡ b → (a || (b || false)) ≡ a
    by true b h k = refl
    by false false h k = refl
    by false true h k = sym (subst (λ y. list_any (bytes_eq y) known ≡ true) (sym ((bytes_eq-Decides name x).0 k)) e) ∙ h

-- one more name, which the second list is given once
alike_with : (given known : List (List ℕ)) (x : List ℕ) → AreAlike given known
    → AreAlike (given ++ x ∷ []) (names_with known x)
alike_with given known x h name =
    list_any-append (bytes_eq name) given (x ∷ []) ∙ ap (λ (a : Bool). a || (bytes_eq name x || false)) (h name)
    ∙ by (is_some (number_of known x)) (found_is known x)
  where
    by : (b : Bool) → b ≡ list_any (bytes_eq x) known
        → (list_any (bytes_eq name) known || (bytes_eq name x || false)) ≡ list_any (bytes_eq name)
        (if b then known else known ++ x ∷ [])
    by true e = same_with known x name (sym e)
    by false e = sym (list_any-append (bytes_eq name) known (x ∷ []))

-- the name of the next one, where these are given before it
pub its_entity :
    (p : Progress) (group : Group) (given : List (List ℕ)) → AreAlike given p.entities
    → next_entity p group ≡ model_name (may_float (next_data p group)) given (next_data p group)
unfolding next_entity
its_entity p group given h = named_alike given p.entities (next_data p group) h

-- the names behind it
pub alike_after : (p : Progress) (group : Group) (given : List (List ℕ)) → AreAlike given p.entities
    → AreAlike (given ++ lowered (model_name (may_float (next_data p group)) given (next_data p group)) ∷ [])
    (after_cell p (cell_name group) (Some (next_entity p group))).entities
alike_after p group given h =
    subst (λ (name : List ℕ). AreAlike (given ++ lowered name ∷ []) (names_with p.entities (lowered (next_entity p group))))
    (its_entity p group given h)
    (alike_with given p.entities (lowered (next_entity p group)) h)
