-- No two of the entities and the drivers of the cells of one library share a name.
use Rattle.std.proofs.Common.{◌≡◌, ℕ, Bool, true, false, ◌⊎◌, inl, inr, List, [], ◌∷◌, ◌++◌, refl, ◌∙◌, subst, codes, decimal}
use Rattle.std.proofs.Common.{nat_eq}
use Rattle.std.specs.List.{IsDistinct, AllByRecursion}
use Rattle.std.specs.Str.{str_eq_ignore_ascii_case}
use Rattle.std.proofs.lemmas.Bool.{eq-eqb}
use Rattle.std.proofs.lemmas.Map.Keys.{IsDistinct-cons, IsDistinct-head, IsDistinct-tail}
use Rattle.written_entities.proofs.trit_cubes.ListLemmas.{Among, among-append, append-among_left, append-among_right}
use Rattle.generated_drivers.specs.vhdl_tokens.Kept.{lowered}
use Rattle.generated_drivers.specs.vital_models.Kept.{driver_name, entity_name}
use Rattle.generated_drivers.specs.vital_models.declared.model.VEntity.{VEntity}
use Rattle.written_entities.specs.vhdl_grammar.VhdlText.{entity_names}
use Rattle.written_entities.specs.vhdl_grammar.WellFormed.{AreApart}
use Rattle.generated_entities.proofs.generated_modules.NameLists.{each_among, at_among, other_key}
use Rattle.generated_drivers.specs.driver_models.declared.model.DriverModel.{DriverModel}
use Rattle.generated_drivers.specs.three_state_cells.DrivenCells.{DrivenData, may_float}
use Rattle.generated_drivers.specs.Generated.{vital_driver_of}
use Rattle.written_entities.proofs.Names.{case_turned}
use Rattle.written_driven_models.specs.Texts.{WrittenModel, models_of, driver_in, drivers_of}
use Rattle.written_driven_models.specs.ApartDrivers.{driver_names}
use Rattle.written_driven_models.specs.VitalLibrary.{model_name, driven_entity, driven_entities_behind}
use Rattle.written_driven_models.specs.Library.{IsNumberedDriven, own_numbers}
use Rattle.written_driven_models.proofs.NameForms.{IsFormed, IsFirst, entity_formed, driver_formed, cell_vitalz, cell_kept}
use Rattle.written_driven_models.proofs.NameForms.{both, forms_apart}

-- the names of entities, and behind them those of drivers
abbrev pub all_names : List (WrittenModel VEntity) → List (List ℕ)
all_names xs = entity_names (models_of xs) ++ driver_names (drivers_of xs)

-- A name is that of a model of some cell, behind these names and perhaps more.
record IsBehind (given : List (List ℕ)) (cells : List DrivenData) (y : List ℕ) : Type 0 where
  cell : DrivenData
  among : Among cell cells
  names : List (List ℕ)
  known : (x : List ℕ) → Among x given → Among x names
  form : IsFormed names cell.core.number y

here : (given : List (List ℕ)) (cell : DrivenData) (cells : List DrivenData) (y : List ℕ) → IsFormed given cell.core.number y
    → IsBehind given (cell ∷ cells) y
here given cell cells y form = record { cell = cell; among = inl refl; names = given; known = λ x k. k; form = form }

later : (given : List (List ℕ)) (last : List ℕ) (cell : DrivenData) (cells : List DrivenData) (y : List ℕ)
    → IsBehind (given ++ last ∷ []) cells y → IsBehind given (cell ∷ cells) y
later given last cell cells y h = record {
  cell = h.cell;
  among = inr h.among;
  names = h.names;
  known = λ x k. h.known x (append-among_left x given (last ∷ []) k);
  form = h.form;
}

entity_form : (b : Bool) (given : List (List ℕ)) (cell : DrivenData)
    → IsFormed given cell.core.number (driven_entity b given cell).model.name
entity_form true given cell = inl refl
entity_form false given cell = entity_formed cell.core.number given cell.core.name

entity_behind_form : (given : List (List ℕ)) (cells : List DrivenData) (y : List ℕ)
    → Among y (entity_names (models_of (driven_entities_behind given cells))) → IsBehind given cells y
entity_behind_form given [] y m = absurd m
entity_behind_form given (cell ∷ cells) y (inl e) =
    here given cell cells y (subst (IsFormed given cell.core.number) e (entity_form (may_float cell) given cell))
entity_behind_form given (cell ∷ cells) y (inr m) =
    let last : List ℕ = lowered (model_name (may_float cell) given cell) in
    later given last cell cells y (entity_behind_form (given ++ last ∷ []) cells y m)

driver_form : (given : List (List ℕ)) (cell : DrivenData)
    → IsFormed given cell.core.number (driver_name cell.core.number given cell.name)
driver_form given cell = inr (driver_formed cell.core.number given cell.name)

driver_among :
    (b : Bool) (given : List (List ℕ)) (cell : DrivenData) (rest : List DriverModel) (y : List ℕ)
    → Among y (driver_names (driver_in (driven_entity b given cell).driver ++ rest))
    → IsFormed given cell.core.number y ⊎ Among y (driver_names rest)
unfolding vital_driver_of
driver_among true given cell rest y (inl e) = inl (subst (IsFormed given cell.core.number) e (driver_form given cell))
driver_among true given cell rest y (inr m) = inr m
driver_among false given cell rest y m = inr m

driver_behind_form : (given : List (List ℕ)) (cells : List DrivenData) (y : List ℕ)
    → Among y (driver_names (drivers_of (driven_entities_behind given cells))) → IsBehind given cells y
driver_behind_form given [] y m = absurd m
driver_behind_form given (cell ∷ cells) y m =
    let last : List ℕ = lowered (model_name (may_float cell) given cell) in
    elim (driver_among (may_float cell) given cell (drivers_of (driven_entities_behind (given ++ last ∷ []) cells)) y m) [
      | inl form ↦ here given cell cells y form
      | inr rest ↦ later given last cell cells y (driver_behind_form (given ++ last ∷ []) cells y rest)
    ]

behind_form : (given : List (List ℕ)) (cells : List DrivenData) (y : List ℕ)
    → Among y (all_names (driven_entities_behind given cells)) → IsBehind given cells y
behind_form given cells y m =
    let xs = driven_entities_behind given cells in
    elim (among-append y (entity_names (models_of xs)) (driver_names (drivers_of xs)) m) [
      | inl k ↦ entity_behind_form given cells y k
      | inr k ↦ driver_behind_form given cells y k
    ]

-- One more name between others.

between : {X : Type 0} (P : X → Type 0) (xs : List X) (d : X) (ys : List X) → AllByRecursion P (xs ++ ys) → P d
    → AllByRecursion P (xs ++ d ∷ ys)
between P [] d ys h k = (k, h)
between P (x ∷ xs) d ys h k = (h.0, between P xs d ys h.1 k)

insert :
    {X : Type 0} (e : X → X → Bool) (xs : List X) (d : X) (ys : List X) → IsDistinct e (xs ++ ys)
    → ((x : X) → Among x xs → e x d ≡ false) → ((y : X) → Among y ys → e d y ≡ false) → IsDistinct e (xs ++ d ∷ ys)
insert e [] d ys h k l = IsDistinct-cons e d ys (each_among (λ y. e d y ≡ false) ys l) h
insert e (x ∷ xs) d ys h k l =
    IsDistinct-cons e x (xs ++ d ∷ ys) (between (λ z. e x z ≡ false) xs d ys (IsDistinct-head e x (xs ++ ys) h) (k x (inl refl)))
    (insert e xs d ys (IsDistinct-tail e x (xs ++ ys) h) (λ z m. k z (inr m)) l)

-- The first cell, and those behind it.

module _ (given : List (List ℕ)) (cell : DrivenData) (cells : List DrivenData)
    (h : AllByRecursion IsNumberedDriven (cell ∷ cells)) (distinct : IsDistinct nat_eq (own_numbers (cell ∷ cells))) where
  -- a name of the first cell is unlike those of others behind it
  unlike_later :
      (last x y : List ℕ) → IsFirst given (given ++ last ∷ []) cell.core.number x → IsBehind (given ++ last ∷ []) cells y
      → str_eq_ignore_ascii_case x y ≡ false
  unlike_later last x y first behind =
      forms_apart given behind.names cell.core.number behind.cell.core.number x y h.0.core.number
      (at_among IsNumberedDriven behind.cell cells h.1 behind.among).core.number
      (other_key nat_eq (λ (c : DrivenData). c.core.number) eq-eqb cell cells distinct behind.cell behind.among)
      (elim first [
        | inl a ↦ inl a
        | inr (inl a) ↦ inr (inl a)
        | inr (inr a) ↦ inr (inr (a.0, behind.known (lowered x) a.1))
      ])
      behind.form

  kept_last : (x : List ℕ) → IsFormed given cell.core.number x → IsFirst given (given ++ lowered x ∷ []) cell.core.number x
  kept_last x (inl a) = inl a
  kept_last x (inr (inl a)) = inr (inl a)
  kept_last x (inr (inr a)) = inr (inr (a, append-among_right (lowered x) given (lowered x ∷ []) (inl refl)))

  own_apart : str_eq_ignore_ascii_case (codes "cell" ++ decimal cell.core.number)
      (driver_name cell.core.number given cell.name) ≡ false
  own_apart =
      elim (driver_formed cell.core.number given cell.name) [
        | inl a ↦ both (codes "cell" ++ decimal cell.core.number) (codes "cell" ++ decimal cell.core.number)
            (driver_name cell.core.number given cell.name) (codes "vitalz" ++ decimal cell.core.number) refl a
            (cell_vitalz cell.core.number cell.core.number)
        | inr a ↦ cell_kept given (driver_name cell.core.number given cell.name) cell.core.number h.0.core.number a
      ]

  one_more :
      (b : Bool) (rest : List (WrittenModel VEntity)) → AreApart (all_names rest)
      → ((y : List ℕ) → Among y (all_names rest) → IsBehind (given ++ lowered (model_name b given cell) ∷ []) cells y)
      → AreApart (all_names (driven_entity b given cell ∷ rest))
  unfolding vital_driver_of
  one_more false rest apart forms =
      let name : List ℕ = entity_name cell.core.number given cell.core.name in
      IsDistinct-cons str_eq_ignore_ascii_case name (all_names rest)
      (each_among (λ y. str_eq_ignore_ascii_case name y ≡ false) (all_names rest)
      (λ y m. unlike_later (lowered name) name y (kept_last name (entity_formed cell.core.number given cell.core.name))
      (forms y m)))
      apart
  one_more true rest apart forms =
      let core : List ℕ = codes "cell" ++ decimal cell.core.number in
      let name : List ℕ = driver_name cell.core.number given cell.name in
      let es : List (List ℕ) = entity_names (models_of rest) in
      let ds : List (List ℕ) = driver_names (drivers_of rest) in
      let of_core : (y : List ℕ) → Among y (es ++ ds) → str_eq_ignore_ascii_case core y ≡ false =
      λ y m. unlike_later (lowered name) core y (inl refl) (forms y m) in
      let of_driver : (y : List ℕ) → Among y (es ++ ds) → str_eq_ignore_ascii_case name y ≡ false =
      λ y m. unlike_later (lowered name) name y (kept_last name (driver_form given cell)) (forms y m) in
      IsDistinct-cons str_eq_ignore_ascii_case core (es ++ name ∷ ds)
      (between (λ y. str_eq_ignore_ascii_case core y ≡ false) es name ds
      (each_among (λ y. str_eq_ignore_ascii_case core y ≡ false) (es ++ ds) of_core) own_apart)
      (insert str_eq_ignore_ascii_case es name ds apart
      (λ x m. case_turned x name ∙ of_driver x (append-among_left x es ds m))
      (λ y m. of_driver y (append-among_right y es ds m)))

pub names_apart :
    (given : List (List ℕ)) (cells : List DrivenData) → AllByRecursion IsNumberedDriven cells
    → IsDistinct nat_eq (own_numbers cells)
    → AreApart (all_names (driven_entities_behind given cells))
unfolding IsDistinct
names_apart given [] h d = tt
names_apart given (cell ∷ cells) h d =
    let names : List (List ℕ) = given ++ lowered (model_name (may_float cell) given cell) ∷ [] in
    one_more given cell cells h d (may_float cell) (driven_entities_behind names cells)
    (names_apart names cells h.1 (IsDistinct-tail nat_eq cell.core.number (own_numbers cells) d)) (behind_form names cells)
