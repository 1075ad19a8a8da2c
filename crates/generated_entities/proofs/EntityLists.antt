-- The entities of the cells of one library are well formed together: no two share a name, whatever the case of its letters.
use Rattle.std.proofs.Common.{◌≡◌, ℕ, ◌^◌, ◌<◌, Bool, true, false, inl, inr, List, [], ◌∷◌, ◌++◌, refl, sym, subst, codes}
use Rattle.std.proofs.Common.{decimal, nat_eq, is_some, if◌then◌else◌}
use Rattle.std.specs.Prelude.{All}
use Rattle.std.specs.List.{IsDistinct}
use Rattle.std.specs.Str.{bytes_eq, str_eq_ignore_ascii_case}
use Rattle.std.proofs.lemmas.Bool.{eq-eqb}
use Rattle.std.proofs.lemmas.List.Elements.{All-nil, All-cons, All-head, All-tail, All-contains}
use Rattle.std.proofs.lemmas.Map.Keys.{IsDistinct-cons, IsDistinct-tail}
use Rattle.std.proofs.lemmas.Slice.Eq.{bytes_eq-Decides}
use Rattle.trit_cubes.proofs.ListLemmas.{Among, append-among_left, append-among_right, among-contains}
use Rattle.bool_functions.specs.NameList.{number_of}
use Rattle.bool_functions.proofs.NameLists.{position-some}
use Rattle.cell_machine.specs.CellData.{CellData}
use Rattle.udp_tables.proofs.FirstLemmas.{found-any}
use Rattle.vhdl_tokens.specs.Kept.{lowered}
use Rattle.vital_models.specs.Kept.{is_kept_entity_name, entity_name}
use Rattle.vhdl_grammar.specs.VhdlText.{entity_names}
use Rattle.vhdl_grammar.specs.WellFormed.{IsWellFormedEntity, AreApart}
use Rattle.generated_modules.specs.Cells.{IsNumberedCell, numbers_of_cells}
use Rattle.generated_modules.proofs.NameLists.{each_among, other_key}
use Rattle.grammar_reader.proofs.ItemPlaces.{none_if}
use Rattle.generated_entities.specs.Library.{entity_behind, entities_behind}
use Rattle.generated_entities.specs.Laws.{EntitiesAreWellFormed}
use Rattle.generated_entities.proofs.Names.{unlike_lower, no_cell, cells_apart, kept}
use Rattle.generated_entities.proofs.Entities.{entity-well-formed}

-- a name that is kept is none of those before it
pub kept_is_new : (given : List (List ℕ)) (name x : List ℕ) → is_some (number_of given (lowered name)) ≡ false → Among x given
    → lowered name ≡ x → ⊥
kept_is_new given name x h m e =
    position-some (bytes_eq (lowered name)) given
    (found-any (bytes_eq (lowered name)) x given m ((bytes_eq-Decides (lowered name) x).1 e))
    (none_if (number_of given (lowered name)) h)

-- the names of two cells, of which the second is given behind the first
behind_apart :
    (cell other : CellData) (given names : List (List ℕ)) → cell.number < 2 ^ 64 → other.number < 2 ^ 64
    → (cell.number ≡ other.number → ⊥)
    → Among (lowered (entity_name cell.number given cell.name)) names
    → str_eq_ignore_ascii_case (entity_name cell.number given cell.name) (entity_name other.number names other.name) ≡ false
behind_apart cell other given names h k numbers m = by (is_kept_entity_name names other.name) refl
  where
    other_given : (c : Bool) → is_kept_entity_name given cell.name ≡ c
        → str_eq_ignore_ascii_case (if c then cell.name else codes "cell" ++ decimal cell.number)
        (codes "cell" ++ decimal other.number) ≡ false
    other_given true e = no_cell cell.name other.number k (kept given cell.name e).no_cell
    other_given false e = cells_apart cell.number other.number h k numbers

    by :
        (b : Bool) → is_kept_entity_name names other.name ≡ b
        → str_eq_ignore_ascii_case (entity_name cell.number given cell.name)
        (if b then other.name else codes "cell" ++ decimal other.number) ≡ false
    by true e =
        unlike_lower (entity_name cell.number given cell.name) other.name
        (λ same. kept_is_new names other.name (lowered (entity_name cell.number given cell.name)) (kept names other.name e).new m
        (sym same))
    by false e = other_given (is_kept_entity_name given cell.name) refl

-- a name of an entity is that of some cell, behind these names and perhaps more
record IsBehind (given : List (List ℕ)) (cells : List CellData) (y : List ℕ) : Type 0 where
  cell : CellData
  among : Among cell cells
  names : List (List ℕ)
  known : (x : List ℕ) → Among x given → Among x names
  same : entity_name cell.number names cell.name ≡ y

behind_form : (given : List (List ℕ)) (cells : List CellData) (y : List ℕ) → Among y (entity_names (entities_behind given cells))
    → IsBehind given cells y
behind_form given [] y m = absurd m
behind_form given (cell ∷ cells) y (inl e) = record { cell = cell; among = inl refl; names = given; known = λ x k. k; same = e }
behind_form given (cell ∷ cells) y (inr m) =
    let last : List (List ℕ) = lowered (entity_name cell.number given cell.name) ∷ [] in
    let rest = behind_form (given ++ last) cells y m in
    record {
      cell = rest.cell;
      among = inr rest.among;
      names = rest.names;
      known = λ x k. rest.known x (append-among_left x given last k);
      same = rest.same;
    }

entities_apart :
    (given : List (List ℕ)) (cells : List CellData) → All IsNumberedCell cells → IsDistinct nat_eq (numbers_of_cells cells)
    → AreApart (entity_names (entities_behind given cells))
unfolding IsDistinct
entities_apart given [] h d = tt
entities_apart given (cell ∷ cells) h d =
    let name : List ℕ = entity_name cell.number given cell.name in
    let names : List (List ℕ) = given ++ lowered name ∷ [] in
    let later : List (List ℕ) = entity_names (entities_behind names cells) in
    let numbered = All-tail IsNumberedCell cell cells h in
    IsDistinct-cons str_eq_ignore_ascii_case name later
    (each_among (λ y. str_eq_ignore_ascii_case name y ≡ false) later
    (λ y m.
    let form = behind_form names cells y m in
    let its = All-contains IsNumberedCell cells form.cell numbered (among-contains form.cell cells form.among) in
    subst (λ z. str_eq_ignore_ascii_case name z ≡ false) form.same
    (behind_apart cell form.cell given form.names (All-head IsNumberedCell cell cells h).number its.number
    (other_key nat_eq (λ (c : CellData). c.number) eq-eqb cell cells d form.cell form.among)
    (form.known (lowered name) (append-among_right (lowered name) given (lowered name ∷ []) (inl refl))))))
    (entities_apart names cells numbered (IsDistinct-tail nat_eq cell.number (numbers_of_cells cells) d))

all_well_formed : (given : List (List ℕ)) (cells : List CellData) → All IsNumberedCell cells
    → All IsWellFormedEntity (entities_behind given cells)
all_well_formed given [] h = All-nil IsWellFormedEntity
all_well_formed given (cell ∷ cells) h =
    let names : List (List ℕ) = given ++ lowered (entity_name cell.number given cell.name) ∷ [] in
    All-cons IsWellFormedEntity (entity_behind given cell) (entities_behind names cells)
    (entity-well-formed cell given (All-head IsNumberedCell cell cells h))
    (all_well_formed names cells (All-tail IsNumberedCell cell cells h))

pub entities-well-formed : EntitiesAreWellFormed
entities-well-formed cells h = record {
  entities = all_well_formed [] cells h.numbered;
  apart =
      entities_apart [] cells h.numbered h.numbers;
}
