-- The modules of the cells of one library are well formed together: no two of all their primitives and modules share a name.
use Rattle.std.proofs.Common.{◌≡◌, ℕ, ◌^◌, ◌<◌, ◌≤◌, Bool, true, false, ◌⊎◌, inl, inr, IsTrue, List, [], ◌∷◌, ◌++◌, map, refl}
use Rattle.std.proofs.Common.{sym, ap, ◌∙◌, subst, append_assoc, codes, decimal, nat_eq}
use Rattle.std.specs.Prelude.{All, flat_map}
use Rattle.std.specs.Char.{is_ascii_digit}
use Rattle.std.specs.List.{list_all, starts_with}
use Rattle.std.specs.Str.{bytes_eq}
use Rattle.std.proofs.lemmas.Bool.{and_parts, true≢false, eq-eqb}
use Rattle.std.proofs.lemmas.Fmt.{decimal_injective}
use Rattle.std.proofs.lemmas.List.{append_cancel_left}
use Rattle.std.proofs.lemmas.List.Elements.{All-nil, All-cons, All-head, All-tail, All-contains}
use Rattle.std.proofs.lemmas.Map.Keys.{IsDistinct-tail}
use Rattle.trit_cubes.proofs.ListLemmas.{Among, among-append, among-contains, map-among}
use Rattle.cell_machine.specs.CellData.{CellData}
use Rattle.verilog_tokens.specs.Kept.{is_kept_cell_name}
use Rattle.verilog_grammar.specs.specify_blocks.Names.{module_name}
use Rattle.verilog_grammar.specs.specify_blocks.Generated.{primitives_of, module_of}
use Rattle.verilog_grammar.specs.WellFormed.{IsWellFormedModule, udp_names, outer_names}
use Rattle.verilog_grammar.proofs.ReadNames.{AreNames, no_names, one_name}
use Rattle.generated_modules.specs.Cells.{IsNumberedCell, names_of_cells, numbers_of_cells, AreCellsOfOneLibrary}
use Rattle.generated_modules.specs.Laws.{ModulesAreWellFormed}
use Rattle.generated_modules.proofs.NameLists.{unlike, told_apart, other_key, join_names}
use Rattle.generated_modules.proofs.KeptNames.{kept_tail, kept_apart}
use Rattle.generated_modules.proofs.NumberedNames.{decimal_digits, number_digits, numbered_form}
use Rattle.generated_modules.proofs.GivenNames.{given_apart, given_no_lib}
use Rattle.generated_modules.proofs.PrimitiveNames.{primitive_front, primitives_named, primitives_are_named, primitive_count}
use Rattle.generated_modules.proofs.Modules.{primitives_few, name_is_one, module_well_formed}

-- a name before a module's end: that of a primitive, or the module's own
abbrev pub IsOuter : CellData → List ℕ → Type 0
IsOuter cell x = ((j : ℕ) × (j ≤ primitive_count cell) × (x ≡ primitive_front cell.number ++ decimal j))
    ⊎ (x ≡ module_name cell.number cell.name)

outer_form : (cell : CellData) (x : List ℕ) → Among x (outer_names (module_of cell)) → IsOuter cell x
outer_form cell x m =
    elim (among-append x (udp_names (primitives_of cell)) (module_name cell.number cell.name ∷ []) m) [
      | inl primitive ↦
          let form = numbered_form (primitive_front cell.number) (primitive_count cell) x
          (subst (λ l. Among x l) (primitives_named cell) primitive) in
          inl (form.0, form.2, form.3)
      | inr own ↦ elim own [ inl e ↦ inr (sym e) | inr none ↦ absurd none ]
    ]

abbrev pub is_own : List ℕ → Bool
is_own x = starts_with nat_eq x (codes "lib_")

pub own_primitive : (c : ℕ) (ds x : List ℕ) → x ≡ primitive_front c ++ ds → is_own x ≡ true
own_primitive c ds x e = ap is_own e

pub module_no_lib : (cell : CellData) (x : List ℕ) → x ≡ module_name cell.number cell.name → is_own x ≡ false
module_no_lib cell x e = ap is_own e ∙ given_no_lib (codes "cell") (λ ds. refl) cell.number cell.name

-- digits end where another byte stands
same_digits :
    (xs ys r s : List ℕ) → IsTrue (list_all is_ascii_digit xs) → IsTrue (list_all is_ascii_digit ys) → xs ++ 95 ∷ r ≡ ys ++ 95 ∷ s
    → xs ≡ ys
same_digits [] [] r s h k e = refl
same_digits [] (y ∷ ys) r s h k e = let first : 95 ≡ y = cc
    in underscore y first (and_parts (is_ascii_digit y) (list_all is_ascii_digit ys) k).0
  where
    underscore : (y : ℕ) → 95 ≡ y → IsTrue (is_ascii_digit y) → [] ≡ y ∷ ys
    underscore y f d = let bad : IsTrue (is_ascii_digit 95) = subst (λ z. IsTrue (is_ascii_digit z)) (sym f) d in absurd cc
same_digits (x ∷ xs) [] r s h k e = let first : x ≡ 95 = cc
    in underscore x first (and_parts (is_ascii_digit x) (list_all is_ascii_digit xs) h).0
  where
    underscore : (x : ℕ) → x ≡ 95 → IsTrue (is_ascii_digit x) → x ∷ xs ≡ []
    underscore x f d = let bad : IsTrue (is_ascii_digit 95) = subst (λ z. IsTrue (is_ascii_digit z)) f d in absurd cc
same_digits (x ∷ xs) (y ∷ ys) r s h k e =
    let first : x ≡ y = cc in
    let rest : xs ++ 95 ∷ r ≡ ys ++ 95 ∷ s = cc in
    let later = same_digits xs ys r s (and_parts (is_ascii_digit x) (list_all is_ascii_digit xs) h).1
    (and_parts (is_ascii_digit y) (list_all is_ascii_digit ys) k).1 rest in
    ap (λ z. z ∷ xs) first ∙ ap (λ l. y ∷ l) later

-- primitives of two cells
pub fronts_apart : (c d : ℕ) (r s : List ℕ) → c < 2 ^ 64 → d < 2 ^ 64 → (c ≡ d → ⊥)
    → primitive_front c ++ r ≡ primitive_front d ++ s → ⊥
fronts_apart c d r s h k apart e =
    let behind : (decimal c ++ codes "_") ++ r ≡ (decimal d ++ codes "_") ++ s
    = append_cancel_left (codes "lib_") ((decimal c ++ codes "_") ++ r) ((decimal d ++ codes "_") ++ s) e in
    let cut : decimal c ++ 95 ∷ r ≡ decimal d ++ 95 ∷ s
    = sym (append_assoc (decimal c) (codes "_") r) ∙ behind ∙ append_assoc (decimal d) (codes "_") s in
    apart (decimal_injective c d h k
    (same_digits (decimal c) (decimal d) r s (number_digits (decimal c) (decimal_digits c h))
    (number_digits (decimal d) (decimal_digits d k)) cut))

-- the names of two cells of one library
outer_apart :
    (cell other : CellData) (x y : List ℕ) → cell.number < 2 ^ 64 → other.number < 2 ^ 64 → (cell.number ≡ other.number → ⊥)
    → (is_kept_cell_name cell.name ≡ true → cell.name ≡ other.name → ⊥)
    → IsOuter cell x → IsOuter other y → bytes_eq x y ≡ false
outer_apart cell other x y h k numbers names (inl f) (inl g) =
    unlike x y (λ e. fronts_apart cell.number other.number (decimal f.0) (decimal g.0) h k numbers (sym f.2 ∙ e ∙ g.2))
outer_apart cell other x y h k numbers names (inl f) (inr g) =
    unlike x y (λ e. true≢false (sym (own_primitive cell.number (decimal f.0) x f.2) ∙ ap is_own e ∙ module_no_lib other y g))
outer_apart cell other x y h k numbers names (inr f) (inl g) =
    told_apart is_own x y (module_no_lib cell x f) (own_primitive other.number (decimal g.0) y g.2)
outer_apart cell other x y h k numbers names (inr f) (inr g) =
    unlike x y (λ e. given_apart (codes "cell") cell.number other.number cell.name other.name h k numbers names (sym f ∙ e ∙ g))

-- the names of one cell
outer_named : (cell : CellData) → IsNumberedCell cell → AreNames (outer_names (module_of cell))
outer_named cell h =
    join_names (udp_names (primitives_of cell)) (module_name cell.number cell.name ∷ [])
    (primitives_are_named cell h.number (primitives_few cell h))
    (one_name (module_name cell.number cell.name) (name_is_one cell h))
    (λ x y m i.
    let form = numbered_form (primitive_front cell.number) (primitive_count cell) x
    (subst (λ l. Among x l) (primitives_named cell) m) in
    outer_own x y form.0 form.3 i)
  where
    outer_own : (x y : List ℕ) (j : ℕ) → x ≡ primitive_front cell.number ++ decimal j
        → Among y (module_name cell.number cell.name ∷ []) → bytes_eq x y ≡ false
    outer_own x y j e (inl f) =
        unlike x y (λ same. true≢false (sym (own_primitive cell.number (decimal j) x e) ∙ ap is_own same
        ∙ module_no_lib cell y (sym f)))
    outer_own x y j e (inr none) = absurd none

-- a name before the end of the modules of some cells is one of some cell
pub outer_of : (cells : List CellData) (x : List ℕ) → Among x (flat_map outer_names (map module_of cells)) → (cell : CellData)
    × Among cell cells × IsOuter cell x
outer_of [] x m = absurd m
outer_of (cell ∷ cells) x m =
    elim (among-append x (outer_names (module_of cell)) (flat_map outer_names (map module_of cells)) m) [
      | inl here ↦ (cell, inl refl, outer_form cell x here)
      | inr later ↦ let rest = outer_of cells x later in (rest.0, inr rest.1, rest.2)
    ]

others : (cell : CellData) (cells : List CellData) → AreCellsOfOneLibrary (cell ∷ cells) → AreCellsOfOneLibrary cells
others cell cells h = record {
  numbered = All-tail IsNumberedCell cell cells h.numbered;
  names = kept_tail bytes_eq is_kept_cell_name cell.name (names_of_cells cells) h.names;
  numbers = IsDistinct-tail nat_eq cell.number (numbers_of_cells cells) h.numbers;
}

all_named : (cells : List CellData) → AreCellsOfOneLibrary cells → AreNames (flat_map outer_names (map module_of cells))
all_named [] h = no_names
all_named (cell ∷ cells) h =
    let first = All-head IsNumberedCell cell cells h.numbered in
    join_names (outer_names (module_of cell)) (flat_map outer_names (map module_of cells)) (outer_named cell first)
    (all_named cells (others cell cells h))
    (λ x y m i.
    let found = outer_of cells y i in
    let its = All-contains IsNumberedCell cells found.0 (All-tail IsNumberedCell cell cells h.numbered)
    (among-contains found.0 cells found.1) in
    outer_apart cell found.0 x y first.number its.number
    (other_key nat_eq (λ (c : CellData). c.number) eq-eqb cell cells h.numbers found.0 found.1)
    (kept_apart is_kept_cell_name cell.name found.0.name (names_of_cells cells) h.names
    (map-among (λ (c : CellData). c.name) found.0 cells found.1))
    (outer_form cell x m) found.2)

all_well_formed : (cells : List CellData) → All IsNumberedCell cells → All IsWellFormedModule (map module_of cells)
all_well_formed [] h = All-nil IsWellFormedModule
all_well_formed (cell ∷ cells) h =
    All-cons IsWellFormedModule (module_of cell) (map module_of cells)
    (module_well_formed cell (All-head IsNumberedCell cell cells h))
    (all_well_formed cells (All-tail IsNumberedCell cell cells h))

pub modules-well-formed : ModulesAreWellFormed
modules-well-formed cells h = record { modules = all_well_formed cells h.numbered; apart = (all_named cells h).apart }
