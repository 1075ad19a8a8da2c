-- The accepted cells of a library have names and numbers of which none stands twice.
use Rattle.std.proofs.Common.{◌≡◌, ℕ, ◌+◌, ◌≤◌, false, IsTrue, List, [], ◌∷◌, inl, inr, refl, sym, ap, ◌∙◌, subst}
use Rattle.std.proofs.Common.{arith, Contains, Option, Some, None, is_some, nat_eq}
use Rattle.std.specs.Prelude.{All}
use Rattle.std.specs.List.{IsDistinct}
use Rattle.std.specs.Str.{bytes_eq}
use Rattle.std.proofs.lemmas.Bool.{ne_eqb}
use Rattle.std.proofs.lemmas.List.Elements.{All-nil, All-cons}
use Rattle.std.proofs.lemmas.Map.Keys.{IsDistinct-cons}
use Rattle.std.proofs.lemmas.Map.Views.{list_any-from_Contains}
use Rattle.std.proofs.lemmas.Cmp.{nat_list_eq_equiv as bytes_equivalence}
use Rattle.trit_cubes.proofs.ListLemmas.{Among, among-map}
use Rattle.bool_functions.specs.NameList.{number_of}
use Rattle.bool_functions.proofs.Elements.{contains_here, contains_later}
use Rattle.bool_functions.proofs.NameLists.{position-some}
use Rattle.cell_machine.specs.CellRules.{is_cell}
use Rattle.cell_machine.specs.CellData.{CellData}
use Rattle.cell_attributes.specs.Groups.{cell_name}
use Rattle.cell_attributes.specs.Declarations.{declared_of, known_cell, clashes_after}
use Rattle.cell_attributes.proofs.Distinct.{nil_parts, no_place as unknown}
use Rattle.cell_reader.specs.CellTexts.{subject_of}
use Rattle.cell_reader.proofs.Accepted.{accepted_meets_none, accepted_cells_are_sound}
use Rattle.generated_modules.specs.Accepted.{IsAccepted, AreAccepted}
use Rattle.generated_modules.specs.Cells.{IsNumberedCell, names_of_cells, numbers_of_cells}
use Rattle.generated_modules.specs.Laws.{AcceptedAreOfOneLibrary, AcceptedModulesAreWellFormed}
use Rattle.generated_modules.proofs.NameLists.{unlike, each_among}
use Rattle.generated_modules.proofs.KeptNames.{with_distinct_names}
use Rattle.generated_modules.proofs.ModuleLists.{modules-well-formed}

-- the name of a cell that is not refused is none of those before it

no_number : (o : Option ℕ) → is_some o ≡ false → o ≡ None
no_number None h = refl
no_number (Some i) h = absurd cc

name_is_new : (names : List (List ℕ)) (cell : CellData) → IsAccepted names cell → Contains names cell.name → ⊥
name_is_new names cell h k =
    let name : List ℕ = cell_name h.group in
    let same : cell.name ≡ name = ap (λ (c : CellData). c.name) h.data_is in
    let there : Contains h.earlier name = subst (λ x. Contains h.earlier x) same (h.known cell.name k) in
    let unmet = accepted_meets_none (subject_of h.unit h.group) h.earlier h.group h.unrefused in
    let twice = nil_parts (known_cell h.earlier h.group) (clashes_after [] (declared_of h.group)) unmet.1.1.1.1.1.0 in
    position-some (bytes_eq name) h.earlier (list_any-from_Contains bytes_equivalence name h.earlier there)
    (no_number (number_of h.earlier name) (unknown (is_some (number_of h.earlier name)) h.group.at twice.0))

rules : (names : List (List ℕ)) (cell : CellData) → IsAccepted names cell
    → IsTrue (is_cell cell.name cell.pins cell.groups cell.outputs cell.checks cell.arcs)
rules names cell h =
    subst (λ (c : CellData). IsTrue (is_cell c.name c.pins c.groups c.outputs c.checks c.arcs)) (sym h.data_is)
    (accepted_cells_are_sound h.unit h.earlier h.group h.unrefused).0

-- each cell behind a place has a number from there on, and a new name

number_from : (from : ℕ) (names : List (List ℕ)) (cells : List CellData) → AreAccepted from names cells → (other : CellData)
    → Among other cells → from ≤ other.number
number_from from names [] h other m = absurd m
number_from from names (cell ∷ cells) h other (inl e) = subst (λ (c : CellData). from ≤ c.number) e h.0
number_from from names (cell ∷ cells) h other (inr m) =
    let later = number_from (cell.number + 1) (cell.name ∷ names) cells h.3 other m in
    let first = h.0 in
    omega (arith, later, first)

names_new : (from : ℕ) (names : List (List ℕ)) (cells : List CellData) → AreAccepted from names cells → (other : CellData)
    → Among other cells → Contains names other.name → ⊥
names_new from names [] h other m k = absurd m
names_new from names (cell ∷ cells) h other (inl e) k =
    name_is_new names cell h.2 (subst (λ (c : CellData). Contains names c.name) (sym e) k)
names_new from names (cell ∷ cells) h other (inr m) k =
    names_new (cell.number + 1) (cell.name ∷ names) cells h.3 other m (contains_later cell.name names other.name k)

-- no two of them have one name or one number
record AreApart (cells : List CellData) : Type 0 where
  numbered : All IsNumberedCell cells
  names : IsDistinct bytes_eq (names_of_cells cells)
  numbers : IsDistinct nat_eq (numbers_of_cells cells)

no_cells : AreApart []
unfolding IsDistinct
no_cells = record { numbered = All-nil IsNumberedCell; names = tt; numbers = tt }

accepted_apart : (from : ℕ) (names : List (List ℕ)) (cells : List CellData) → AreAccepted from names cells → AreApart cells
accepted_apart from names [] h = no_cells
accepted_apart from names (cell ∷ cells) h =
    let rest = accepted_apart (cell.number + 1) (cell.name ∷ names) cells h.3 in
    record {
      numbered = All-cons IsNumberedCell cell cells (record { rules = rules names cell h.2; number = h.1 }) rest.numbered;
      names = IsDistinct-cons bytes_eq cell.name (names_of_cells cells)
          (each_among (λ x. bytes_eq cell.name x ≡ false) (names_of_cells cells) other_name) rest.names;
      numbers = IsDistinct-cons nat_eq cell.number (numbers_of_cells cells)
          (each_among (λ n. nat_eq cell.number n ≡ false) (numbers_of_cells cells) other_number) rest.numbers;
    }
  where
    other_name : (x : List ℕ) → Among x (names_of_cells cells) → bytes_eq cell.name x ≡ false
    other_name x m =
        let other = among-map (λ (c : CellData). c.name) x cells m in
        unlike cell.name x
        (λ e.
        names_new (cell.number + 1) (cell.name ∷ names) cells h.3 other.0 other.2
        (subst (λ y. Contains (cell.name ∷ names) y) (e ∙ sym other.1) (contains_here cell.name names)))

    other_number : (n : ℕ) → Among n (numbers_of_cells cells) → nat_eq cell.number n ≡ false
    other_number n m =
        let other = among-map (λ (c : CellData). c.number) n cells m in
        let above = number_from (cell.number + 1) (cell.name ∷ names) cells h.3 other.0 other.2 in
        ne_eqb cell.number n (λ e. let same = other.1 in omega (arith, e, same, above))

pub accepted-of-one-library : AcceptedAreOfOneLibrary
accepted-of-one-library cells h =
    let apart = accepted_apart 1 [] cells h in
    with_distinct_names cells apart.numbered apart.names apart.numbers

pub accepted-well-formed : AcceptedModulesAreWellFormed
accepted-well-formed cells h = modules-well-formed cells (accepted-of-one-library cells h)
