-- What the rules of a cell say of its outputs.
use Rattle.std.proofs.Common.{◌≡◌, ℕ, zero, suc, ◌+◌, ◌*◌, ◌<◌, ◌≤◌, Bool, true, false, List, [], ◌∷◌, length, map, refl, sym}
use Rattle.std.proofs.Common.{◌∙◌, subst, arith, IsTrue, Some, slice_get, nat_eq, nat_lt, eqb-true, if◌then◌else◌}
use Rattle.std.specs.Prelude.{flat_map}
use Rattle.std.specs.List.{list_all}
use Rattle.std.specs.Option.{option_map_or}
use Rattle.std.proofs.lemmas.List.Folds.{list_all-append}
use Rattle.std.proofs.lemmas.List.{length-map}
use Rattle.std.proofs.lemmas.Bool.{and_parts, and_from, ltb-true, lt-ltb, leb-true}
use Rattle.trit_cubes.specs.declared.trits.Trit.TheVariants.{Unknown}
use Rattle.bool_functions.specs.Tree.{names_of}
use Rattle.cell_machine.specs.declared.pins.Pin.{Pin}
use Rattle.cell_machine.specs.declared.groups.StateGroup.{StateGroup}
use Rattle.cell_machine.specs.declared.outputs.Source.{Source}
use Rattle.cell_machine.specs.declared.outputs.Source.TheVariants as source
use Rattle.cell_machine.specs.declared.outputs.OutputPin.{OutputPin}
use Rattle.cell_machine.specs.declared.cells.Cell.{Cell}
use Rattle.cell_machine.specs.CellData.{CellData}
use Rattle.cell_machine.specs.Names.{has, source_name}
use Rattle.cell_machine.specs.CellRules.{is_input_pin, second_names, names_behind, is_source, is_output_of}
use Rattle.cell_machine.specs.Outputs.{output_at}
use Rattle.cell_machine.specs.CellTrace.{sources_at, output_value_at}
use Rattle.cell_machine.specs.Supports.{StatesBelow, OutputFacts}
use Rattle.cell_machine.proofs.RuleLemmas.{few_pins, few_groups, outputs_hold}
use Rattle.cell_machine.proofs.CellFacts.{input-below, has-all, name_bound-below}

-- a passed test of a list is passed at each element
pub all-at : {X : Type 0} (p : X → Bool) (xs : List X) (i : ℕ) (x : X) → IsTrue (list_all p xs) → slice_get xs i ≡ Some x
    → IsTrue (p x)
all-at p [] i x h e = absurd cc
all-at p (y ∷ ys) zero x h e = let is : y ≡ x = cc in subst (λ z. IsTrue (p z)) is (and_parts _ _ h).0
all-at p (y ∷ ys) (suc i) x h e = all-at p ys i x (and_parts (p y) (list_all p ys) h).1 e

-- a source has a name below 96
source-below :
    (pins : List Pin) (groups : List StateGroup) (s : Source)
    → length pins ≤ 64 → length groups ≤ 16 → IsTrue (is_source pins groups s) → source_name (length pins) s < 96
source-below pins groups (source.Pin p) few some h = let below : p < length pins = input-below pins p h in omega arith
source-below pins groups (source.State g) few some h = let below : g < length groups = ltb-true g (length groups) h in omega arith

names-small :
    (pins : List Pin) (groups : List StateGroup) (sources : List Source)
    → length pins ≤ 64 → length groups ≤ 16 → IsTrue (list_all (is_source pins groups) sources)
    → IsTrue (list_all (λ i. nat_lt i 96) (map (source_name (length pins)) sources))
names-small pins groups [] few some h = refl
names-small pins groups (s ∷ sources) few some h =
    let parts = and_parts (is_source pins groups s) (list_all (is_source pins groups) sources) h in
    and_from _ _ (lt-ltb _ 96 (source-below pins groups s few some parts.0)) (names-small pins groups sources few some parts.1)

states-below :
    (pins : List Pin) (groups : List StateGroup) (sources : List Source)
    → IsTrue (list_all (is_source pins groups) sources) → StatesBelow (length groups) sources
states-below pins groups [] h = tt
states-below pins groups (source.Pin p ∷ sources) h =
    states-below pins groups sources (and_parts (is_input_pin pins p) (list_all (is_source pins groups) sources) h).1
states-below pins groups (source.State g ∷ sources) h =
    let parts = and_parts (nat_lt g (length groups)) (list_all (is_source pins groups) sources) h in
    (ltb-true g (length groups) parts.0, states-below pins groups sources parts.1)

-- a name whose names behind it are held is below 96
behind-below :
    (held : List ℕ) (name : ℕ) (groups : List StateGroup) (i : ℕ)
    → IsTrue (list_all (λ j. nat_lt j 96) held) → name + 2 * length groups ≤ 96
    → IsTrue (list_all (has held) (names_behind name groups i)) → i < 96
behind-below held name [] i small room h = ltb-true i 96 (has-all (λ j. nat_lt j 96) held i small (and_parts _ _ h).0)
behind-below held name (group ∷ groups) i small room h =
    by (nat_eq i (name + 1)) refl h (λ k. behind-below held (name + 2) groups i small (omega arith) k)
  where
    by :
        (b : Bool) → nat_eq i (name + 1) ≡ b
        → IsTrue (list_all (has held) (if b then second_names name group.kind else names_behind (name + 2) groups i))
        → (IsTrue (list_all (has held) (names_behind (name + 2) groups i)) → i < 96)
        → i < 96
    by true e k rest = let is : i ≡ name + 1 = eqb-true i (name + 1) e in omega arith
    by false e k rest = rest k

-- where all that stands behind some names is held, the names are below 96
all-behind-below :
    (held : List ℕ) (name : ℕ) (groups : List StateGroup) (names : List ℕ)
    → IsTrue (list_all (λ j. nat_lt j 96) held) → name + 2 * length groups ≤ 96
    → IsTrue (list_all (has held) (flat_map (names_behind name groups) names))
    → IsTrue (list_all (λ j. nat_lt j 96) names)
all-behind-below held name groups [] small room h = refl
all-behind-below held name groups (i ∷ names) small room h =
    let parts =
    and_parts (list_all (has held) (names_behind name groups i)) (list_all (has held) (flat_map (names_behind name groups) names))
    (sym (list_all-append (has held) (names_behind name groups i) (flat_map (names_behind name groups) names)) ∙ h) in
    and_from _ _ (lt-ltb i 96 (behind-below held name groups i small room parts.0))
    (all-behind-below held name groups names small room parts.1)

output_facts :
    (pins : List Pin) (groups : List StateGroup) (output : OutputPin)
    → length pins ≤ 64 → length groups ≤ 16 → IsTrue (is_output_of pins groups output) → OutputFacts (length groups) output
output_facts pins groups output few some h =
    let one = and_parts _ _ h in
    let two = and_parts _ _ one.1 in
    let three = and_parts _ _ two.1 in
    let four = and_parts _ _ three.1 in
    let held : List ℕ = map (source_name (length pins)) output.support in
    let long : length output.support ≤ 10 =
    subst (λ n. n ≤ 10) (length-map output.support (source_name (length pins))) (leb-true _ _ one.0) in
    record {
      bounded =
          name_bound-below 96 output.function
          (all-behind-below held (length pins) groups (names_of output.function)
          (names-small pins groups output.support few some two.0) (omega arith) four.0);
      states = states-below pins groups output.support two.0;
      few = long;
    }

pub cell_output_facts :
    (cell : Cell) (i : ℕ) (output : OutputPin)
    → slice_get cell.outputs i ≡ Some output → OutputFacts (length cell.groups) output
cell_output_facts cell i output e =
    output_facts cell.pins cell.groups output (few_pins cell) (few_groups cell)
    (all-at (is_output_of cell.pins cell.groups) cell.outputs i output (outputs_hold cell) e)

-- the output that has the number i
pub sources_at-is :
    (cell : CellData) (i : ℕ) (output : OutputPin) → slice_get cell.outputs i ≡ Some output → sources_at cell i ≡ output.support
sources_at-is cell i output e = λ j. option_map_or (λ (o : OutputPin). o.support) (e j) []

pub output_value_at-is :
    (cell : CellData) (i : ℕ) (output : OutputPin)
    → slice_get cell.outputs i ≡ Some output → output_value_at cell i ≡ output_at (length cell.pins) cell.groups output
output_value_at-is cell i output e =
    λ j point. option_map_or (λ (o : OutputPin). output_at (length cell.pins) cell.groups o point) (e j) Unknown
