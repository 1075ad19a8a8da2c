-- The cells that translating a library accepts are accepted cells of one library, so that their modules, their entities and their
-- drivers are well formed.
use Rattle.std.proofs.Common.{◌≡◌, ℕ, ◌+◌, ◌^◌, ◌<◌, ◌≤◌, Bool, true, false, List, [], ◌∷◌, ◌++◌, length, map, take, length-take}
use Rattle.std.proofs.Common.{refl, sym, ap, subst, ◌∙◌, arith, Contains, Option, Some, None, is_some, nat_eq, inl, inr}
use Rattle.std.proofs.Common.{if◌then◌else◌}
use Rattle.std.specs.List.{IsDistinct, AllByRecursion, list_any}
use Rattle.std.specs.Str.{bytes_eq}
use Rattle.std.proofs.lemmas.List.Elements.{Contains-append_left, Contains-append_right, All-from_recursion}
use Rattle.std.proofs.lemmas.Map.Views.{Contains-from_any}
use Rattle.std.proofs.lemmas.Simd.{map-map}
use Rattle.std.proofs.lemmas.Slice.Eq.{bytes_eq-Decides}
use Rattle.library_simulation.specs.file_models.bool_functions.NameList.{number_of}
use Rattle.library_simulation.proofs.file_models.bool_functions.Elements.{contains_here, contains_cases}
use Rattle.library_simulation.proofs.file_models.bool_functions.NameLists.{position-none}
use Rattle.written_driven_models.specs.liberty_groups.declared.tree.Group.{Group}
use Rattle.library_simulation.specs.file_models.cell_machine.CellData.{CellData}
use Rattle.cell_attributes.specs.Groups.{cell_name}
use Rattle.cell_reader.specs.declared.refusal.Refusal.{Refusal}
use Rattle.cell_cursor.specs.declared.item.LibraryItem.{LibraryItem}
use Rattle.cell_cursor.specs.declared.item.LibraryItem.TheVariants as item
use Rattle.cell_cursor.specs.Ends.{items_within}
use Rattle.cell_cursor.proofs.Ascending.{items_few}
use Rattle.written_driven_models.specs.three_state_cells.DrivenCells.{DrivenData}
use Rattle.written_driven_models.specs.generated_modules.Cells.{kept_names}
use Rattle.written_driven_models.specs.generated_modules.Accepted.{IsAccepted, AreAccepted, described}
use Rattle.written_driven_models.proofs.generated_modules.AcceptedCells.{accepted-of-one-library}
use Rattle.written_driven_models.specs.Library.{IsNumberedDriven, AreOfOneLibrary}
use Rattle.written_driven_models.proofs.ModuleDrivers.{well-formed-together}
use Rattle.written_driven_models.proofs.Together.{well_formed_together}
use Rattle.library_simulation.specs.library_reader.declared.progress.Progress.{Progress}
use Rattle.library_simulation.specs.library_reader.Progress.{no_progress, next_number, next_bits, names_with, next_refusal}
use Rattle.library_simulation.specs.library_reader.Progress.{next_data, next_entity, entity_by, after_cell}
use Rattle.library_simulation.specs.library_reader.Endings.{library_limit}
use Rattle.library_simulation.proofs.library_reader.CellLemmas.{next_name, bits_unrefused}
use Rattle.translate_cmd.specs.TranslatedModels.{cells_by, accepted_cells, cells_in}
use Rattle.translate_cmd.specs.TranslatedLaws.{ModulesAreWellFormed, EntitiesAreWellFormed}
use Rattle.translate_cmd.proofs.ReadCells.{under_own_name, its_core, its_number, is_numbered}

-- each of these names is among others
abbrev AreAmong : List (List ℕ) → List (List ℕ) → Type 0
AreAmong names known = (name : List ℕ) → Contains names name → Contains known name

-- the names after one more cell

names_keep : (known : List (List ℕ)) (name x : List ℕ) → Contains known x → Contains (names_with known name) x
names_keep known name x h = by (is_some (number_of known name))
  where
    by : (b : Bool) → Contains (if b then known else known ++ name ∷ []) x
    by true = h
    by false = Contains-append_left known (name ∷ []) x h

names_hold : (known : List (List ℕ)) (name : List ℕ) → Contains (names_with known name) name
names_hold known name = by (list_any (bytes_eq name) known) refl
  where
    by : (b : Bool) → list_any (bytes_eq name) known ≡ b → Contains (names_with known name) name
    by true e = names_keep known name name (Contains-from_any (λ x y same. (bytes_eq-Decides x y).0 same) name known e)
    by false e =
        let absent : is_some (number_of known name) ≡ false = ap is_some (position-none (bytes_eq name) known e) in
        subst (λ b. Contains (if b then known else known ++ name ∷ []) name) (sym absent)
        (Contains-append_right known (name ∷ []) name (contains_here name []))

one_more : (names known : List (List ℕ)) (name : List ℕ) → AreAmong names known → AreAmong (name ∷ names) (names_with known name)
one_more names known name h x m =
    elim (contains_cases name names x m) [
      | inl same ↦ subst (λ y. Contains (names_with known name) y) same (names_hold known name)
      | inr rest ↦ names_keep known name x (h x rest)
    ]

-- the next cell

module _ (p : Progress) (group : Group) (e : next_refusal p group ≡ None) where
  its_next_number : (next_data p group).core.number ≡ next_number p
  unfolding next_data
  its_next_number = its_number p.unit p.names (next_number p) (next_bits p group) (bits_unrefused p group e)

  accepted : (names : List (List ℕ)) → AreAmong names p.names → IsAccepted names (under_own_name (next_data p group))
  unfolding next_data
  accepted names h =
      let core = its_core p.unit p.names (next_number p) (next_bits p group) (bits_unrefused p group e) in
      record {
        unit = p.unit;
        group = core.group;
        earlier = p.names;
        known = h;
        unrefused = core.unrefused;
        data_is = core.is ∙ ap (λ (n : ℕ). described p.unit n core.group) (sym its_next_number);
      }

  in_library : next_number p < 2 ^ 64 → IsNumberedDriven (next_data p group)
  unfolding next_data
  in_library few = is_numbered p.unit p.names (next_number p) (next_bits p group) (bits_unrefused p group e) few

-- cells as they follow some with these names, from this number on
record AreBehind (from : ℕ) (names : List (List ℕ)) (cells : List DrivenData) : Type 0 where
  accepted : AreAccepted from names (map under_own_name cells)
  each : AllByRecursion IsNumberedDriven cells

-- what holds of items behind any others
abbrev Follow : List LibraryItem → Type 0
Follow items =
    (p : Progress) (from : ℕ) (names : List (List ℕ))
    → from ≤ next_number p → next_number p + length items < 2 ^ 64 → AreAmong names p.names
    → AreBehind from names (accepted_cells p items)

cell_accepted :
    (p : Progress) (group : Group) (items : List LibraryItem) (from : ℕ) (names : List (List ℕ)) → Follow items
    → from ≤ next_number p
    → next_number p + (length items + 1) < 2 ^ 64 → AreAmong names p.names → (o : Option Refusal) → next_refusal p group ≡ o
    → AreBehind from names (cells_by p group o ++ accepted_cells (after_cell p (cell_name group) (entity_by p group o)) items)
cell_accepted p group items from names follow low room h None e =
    let cell : DrivenData = next_data p group in
    let number = its_next_number p group e in
    let rest = follow (after_cell p (cell_name group) (Some (next_entity p group))) (cell.core.number + 1) (cell.name ∷ names)
    (omega (arith, number)) (omega (arith, room))
    (subst (λ x. AreAmong (x ∷ names) (names_with p.names (cell_name group))) (sym (next_name p group))
    (one_more names p.names (cell_name group) h)) in
    record {
      accepted = (omega (arith, number, low), omega (arith, number, room), accepted p group e names h, rest.accepted);
      each = (in_library p group e (omega (arith, room)), rest.each);
    }
cell_accepted p group items from names follow low room h (Some refusal) e =
    follow (after_cell p (cell_name group) None) from names (omega (arith, low)) (omega (arith, room))
    (λ x m. names_keep p.names (cell_name group) x (h x m))

all_accepted : (items : List LibraryItem) → Follow items
all_accepted [] p from names low room h = record { accepted = tt; each = tt }
all_accepted (item.Cell group ∷ items) p from names low room h =
    cell_accepted p group items from names (all_accepted items) low (omega (arith, room)) h (next_refusal p group) refl
all_accepted (item.Unit line ∷ items) p from names low room h =
    all_accepted items _ from names (omega (arith, low)) (omega (arith, room)) h
all_accepted (item.LeftOut at ∷ items) p from names low room h = all_accepted items p from names low (omega (arith, room)) h
all_accepted (item.BusType group ∷ items) p from names low room h =
    all_accepted items _ from names (omega (arith, low)) (omega (arith, room)) h

-- the items of a library are not many
few_items : (bytes : List ℕ) → length (items_within library_limit bytes) ≤ library_limit
unfolding items_within
few_items bytes =
    let few = items_few (take library_limit bytes) in
    let taken = length-take library_limit bytes in
    omega (arith, few, taken)

no_names : AreAmong [] []
no_names name m = m

library_accepted : (bytes : List ℕ) → AreBehind 1 [] (cells_in bytes)
library_accepted bytes =
    let items : List LibraryItem = items_within library_limit bytes in
    let few : length items ≤ 67108864 = few_items bytes in
    all_accepted items no_progress 1 [] (omega arith) (omega (arith, few)) no_names

-- Such cells are those of one library.

module _ (bytes : List ℕ) where
  abbrev cells : List DrivenData
  cells = cells_in bytes

  behind : AreBehind 1 [] cells
  behind = library_accepted bytes

  pub all_numbered : AllByRecursion IsNumberedDriven cells
  all_numbered = behind.each

  of_one_library : AreOfOneLibrary cells
  of_one_library =
      let apart = accepted-of-one-library (map under_own_name cells) behind.accepted in
      record {
        apart = record {
          numbered = All-from_recursion IsNumberedDriven cells all_numbered;
          numbers = subst (IsDistinct nat_eq) (map-map (λ (c : CellData). c.number) under_own_name cells) apart.numbers;
        };
        names = subst (λ names. IsDistinct bytes_eq (kept_names names)) (map-map (λ (c : CellData). c.name) under_own_name cells)
            apart.names;
      }

pub modules-well-formed : ModulesAreWellFormed
modules-well-formed bytes =
    let together = well-formed-together (cells_in bytes) (of_one_library bytes) in
    record { models = together.models; drivers = together.drivers }

pub entities-well-formed : EntitiesAreWellFormed
entities-well-formed bytes =
    let together = well_formed_together (cells_in bytes) (of_one_library bytes).apart in
    record { models = together.models; drivers = together.drivers }
