-- The cores of the cells of one library are cells of one library, and each differs from the others.
use Rattle.std.proofs.Common.{◌≡◌, ℕ, Bool, true, false, ◌⊎◌, inl, inr, cond, List, [], ◌∷◌, ◌++◌, map, refl, sym, ap, ◌∙◌, subst}
use Rattle.std.proofs.Common.{nat_eq, if◌then◌else◌}
use Rattle.std.specs.Prelude.{All}
use Rattle.std.specs.List.{IsDistinct}
use Rattle.std.specs.Str.{bytes_eq}
use Rattle.std.proofs.lemmas.Bool.{true≢false, eq-eqb}
use Rattle.std.proofs.lemmas.List.Elements.{All-nil, All-cons, All-head, All-tail}
use Rattle.std.proofs.lemmas.Map.Keys.{IsDistinct-cons, IsDistinct-tail}
use Rattle.written_entities.proofs.trit_cubes.ListLemmas.{Among, among-append, map-among, among-filter, append-among_right}
use Rattle.generated_drivers.specs.verilog_tokens.Kept.{is_kept_name, is_kept_cell_name}
use Rattle.generated_drivers.specs.cell_machine.CellData.{CellData}
use Rattle.generated_drivers.specs.specify_blocks.Generated.{module_of}
use Rattle.written_modules.specs.verilog_grammar.WellFormed.{AreWellFormed}
use Rattle.generated_drivers.specs.three_state_cells.DrivenCells.{DrivenData, core_name, may_float}
use Rattle.generated_entities.specs.generated_modules.Cells.{IsNumberedCell, names_of_cells, kept_names, AreCellsOfOneLibrary}
use Rattle.generated_entities.proofs.generated_modules.NameLists.{unlike, each_among, other_key}
use Rattle.generated_entities.proofs.generated_modules.KeptNames.{kept_tail, kept_apart}
use Rattle.generated_modules.proofs.ModuleLists.{modules-well-formed}
use Rattle.written_driven_models.specs.Texts.{models_of}
use Rattle.written_driven_models.specs.Library.{IsNumberedDriven, own_names, own_numbers, AreOfOneLibrary}
use Rattle.written_driven_models.specs.VerilogLibrary.{driven_modules_of}

-- the cores of cells
abbrev pub cores_of : List DrivenData → List CellData
cores_of cells = map (λ (cell : DrivenData). cell.core) cells

-- Verilog text does not keep the name of a core that drivers stand over
pub core_not_kept : (number : ℕ) → is_kept_cell_name (core_name number) ≡ false
unfolding is_kept_name
core_not_kept number = refl

-- A core whose name is kept is that of a cell with this name, of which no output may float.
pub record IsPlain (cell : DrivenData) : Type 0 where
  pub plain : may_float cell ≡ false
  pub same : cell.core.name ≡ cell.name

pub kept_is_plain : (cell : DrivenData) → IsNumberedDriven cell → is_kept_cell_name cell.core.name ≡ true → IsPlain cell
kept_is_plain cell h k = by (may_float cell) refl h.named
  where
    by : (b : Bool) → may_float cell ≡ b → cell.core.name ≡ (if b then core_name cell.core.number else cell.name) → IsPlain cell
    by true e same = absurd (true≢false (sym k ∙ ap is_kept_cell_name same ∙ core_not_kept cell.core.number))
    by false e same = record { plain = e; same = same }

-- the name of the core of a cell of which some output may float
pub floating_name : (cell : DrivenData) → IsNumberedDriven cell → may_float cell ≡ true
    → cell.core.name ≡ core_name cell.core.number
floating_name cell h e = h.named ∙ ap (λ (b : Bool). if b then core_name cell.core.number else cell.name) e

-- the kept names of cores are kept names of the cells

kept_among : (cells : List DrivenData) → All IsNumberedDriven cells → (x : List ℕ) → is_kept_cell_name x ≡ true
    → Among x (names_of_cells (cores_of cells)) → Among x (own_names cells)
kept_among [] h x k m = absurd m
kept_among (cell ∷ cells) h x k (inl e) =
    inl (sym (kept_is_plain cell (All-head IsNumberedDriven cell cells h) (ap is_kept_cell_name e ∙ k)).same ∙ e)
kept_among (cell ∷ cells) h x k (inr m) = inr (kept_among cells (All-tail IsNumberedDriven cell cells h) x k m)

core_names : (cells : List DrivenData) → All IsNumberedDriven cells → IsDistinct bytes_eq (kept_names (own_names cells))
    → IsDistinct bytes_eq (kept_names (names_of_cells (cores_of cells)))
core_names [] h d = d
core_names (cell ∷ cells) h d =
    by (is_kept_cell_name cell.core.name) refl
    (core_names cells (All-tail IsNumberedDriven cell cells h)
    (kept_tail bytes_eq is_kept_cell_name cell.name (own_names cells) d))
  where
    others : List (List ℕ)
    others = kept_names (names_of_cells (cores_of cells))

    apart : is_kept_cell_name cell.core.name ≡ true → (y : List ℕ) → Among y others → cell.core.name ≡ y → ⊥
    apart k y m e =
        let found = among-filter is_kept_cell_name y (names_of_cells (cores_of cells)) m in
        let plain = kept_is_plain cell (All-head IsNumberedDriven cell cells h) k in
        kept_apart is_kept_cell_name cell.name y (own_names cells) d
        (kept_among cells (All-tail IsNumberedDriven cell cells h) y found.1 found.0)
        (sym (ap is_kept_cell_name plain.same) ∙ k) (sym plain.same ∙ e)

    by : (b : Bool) → is_kept_cell_name cell.core.name ≡ b → IsDistinct bytes_eq others
        → IsDistinct bytes_eq (cond b (cell.core.name ∷ others) others)
    by true e rest = IsDistinct-cons bytes_eq cell.core.name others
        (each_among (λ y. bytes_eq cell.core.name y ≡ false) others (λ y m. unlike cell.core.name y (apart e y m))) rest
    by false e rest = rest

cores_numbered : (cells : List DrivenData) → All IsNumberedDriven cells → All IsNumberedCell (cores_of cells)
cores_numbered [] h = All-nil IsNumberedCell
cores_numbered (cell ∷ cells) h =
    All-cons IsNumberedCell cell.core (cores_of cells) (All-head IsNumberedDriven cell cells h).core
    (cores_numbered cells (All-tail IsNumberedDriven cell cells h))

same_numbers : (cells : List DrivenData) → own_numbers cells ≡ map (λ (c : CellData). c.number) (cores_of cells)
same_numbers [] = refl
same_numbers (cell ∷ cells) = ap (λ l. cell.core.number ∷ l) (same_numbers cells)

pub cores_of_one_library : (cells : List DrivenData) → AreOfOneLibrary cells → AreCellsOfOneLibrary (cores_of cells)
cores_of_one_library cells h = record {
  numbered = cores_numbered cells h.apart.numbered;
  names = core_names cells h.apart.numbered h.names;
  numbers = subst (IsDistinct nat_eq) (same_numbers cells) h.apart.numbers;
}

pub same_models : (cells : List DrivenData) → models_of (driven_modules_of cells) ≡ map module_of (cores_of cells)
same_models [] = refl
same_models (cell ∷ cells) = ap (λ l. module_of cell.core ∷ l) (same_models cells)

-- the modules of the cores of the cells of one library are well formed together
pub core-modules-well-formed : (cells : List DrivenData) → AreOfOneLibrary cells
    → AreWellFormed (models_of (driven_modules_of cells))
core-modules-well-formed cells h =
    subst AreWellFormed (sym (same_models cells)) (modules-well-formed (cores_of cells) (cores_of_one_library cells h))

-- cells that differ in their numbers, and in their names where they are kept
pub record Differ (cell other : DrivenData) : Type 0 where
  pub numbers : cell.core.number ≡ other.core.number → ⊥
  pub names : is_kept_cell_name cell.name ≡ true → cell.name ≡ other.name → ⊥

differ_back : (cell other : DrivenData) → Differ cell other → Differ other cell
differ_back cell other h = record {
  numbers = λ e. h.numbers (sym e);
  names = λ k e. h.names (ap is_kept_cell_name (sym e) ∙ k) (sym e);
}

abbrev name_in : DrivenData → List ℕ
name_in cell = cell.name

abbrev number_in : DrivenData → ℕ
number_in cell = cell.core.number

-- cells of one library without the first
pub later_cells : (cell : DrivenData) (cells : List DrivenData) → AreOfOneLibrary (cell ∷ cells) → AreOfOneLibrary cells
later_cells cell cells h = record {
  apart = record {
    numbered = All-tail IsNumberedDriven cell cells h.apart.numbered;
    numbers = IsDistinct-tail nat_eq cell.core.number (own_numbers cells) h.apart.numbers;
  };
  names = kept_tail bytes_eq is_kept_cell_name cell.name (own_names cells) h.names;
}

-- a cell of a library differs from those behind it, and from those before it
pub differs_later : (cell : DrivenData) (cells : List DrivenData) → AreOfOneLibrary (cell ∷ cells) → (other : DrivenData)
    → Among other cells → Differ cell other
differs_later cell cells h other m = record {
  numbers = other_key nat_eq number_in eq-eqb cell cells h.apart.numbers other m;
  names = λ k e. kept_apart is_kept_cell_name cell.name other.name (own_names cells) h.names (map-among name_in other cells m) k
      e;
}

pub differs_earlier :
    (before : List DrivenData) (cell : DrivenData) (cells : List DrivenData) → AreOfOneLibrary (before ++ cell ∷ cells)
    → (other : DrivenData)
    → Among other before → Differ cell other
differs_earlier [] cell cells h other m = absurd m
differs_earlier (first ∷ before) cell cells h other (inl e) =
    differ_back other cell
    (subst (λ (x : DrivenData). Differ x cell) e
    (differs_later first (before ++ cell ∷ cells) h cell (append-among_right cell before (cell ∷ cells) (inl refl))))
differs_earlier (first ∷ before) cell cells h other (inr m) =
    differs_earlier before cell cells (later_cells first (before ++ cell ∷ cells) h) other m

drop_before : (before cells : List DrivenData) → AreOfOneLibrary (before ++ cells) → AreOfOneLibrary cells
drop_before [] cells h = h
drop_before (first ∷ before) cells h = drop_before before cells (later_cells first (before ++ cells) h)

-- a cell of the library is this one, or differs from it
pub differs_from :
    (before : List DrivenData) (cell : DrivenData) (cells : List DrivenData) → AreOfOneLibrary (before ++ cell ∷ cells)
    → (other : DrivenData)
    → Among other (before ++ cell ∷ cells) → (cell ≡ other) ⊎ Differ cell other
differs_from before cell cells h other m =
    elim (among-append other before (cell ∷ cells) m) [
      | inl earlier ↦ inr (differs_earlier before cell cells h other earlier)
      | inr here ↦ elim here [
        | inl e ↦ inl e
        | inr later ↦ inr (differs_later cell cells (drop_before before (cell ∷ cells) h) other later)
      ]
    ]
