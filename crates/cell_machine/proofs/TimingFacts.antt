-- What the rules of a cell say of its checks and arcs.
use Rattle.std.proofs.Common.{◌≡◌, ℕ, zero, suc, ◌+◌, ◌<◌, ◌≤◌, Bool, true, false, not, ◌&&◌, List, [], ◌∷◌, length, refl, sym}
use Rattle.std.proofs.Common.{ap, subst, arith, IsTrue, Option, Some, None, slice_get, take, nat_lt, ◌==◌, eqb-true, cond}
use Rattle.std.proofs.Common.{if◌then◌else◌}
use Rattle.std.proofs.lemmas.List.Sums.{sum_by-cons}
use Rattle.std.specs.Prelude.{count_by}
use Rattle.std.specs.List.{list_all}
use Rattle.std.proofs.lemmas.Bool.{and_parts, and_from, lt-ltb}
use Rattle.bool_functions.specs.declared.tree.Node.{Node}
use Rattle.bool_functions.specs.Tree.{names_of}
use Rattle.bool_functions.specs.Support.{support_of, inserted, insert_all}
use Rattle.cell_machine.specs.declared.pins.Pin.{Pin}
use Rattle.cell_machine.specs.declared.checks.Check.{Check}
use Rattle.cell_machine.specs.declared.arcs.Arc.{Arc}
use Rattle.cell_machine.specs.declared.cells.Cell.{Cell}
use Rattle.cell_machine.specs.Names.{has}
use Rattle.cell_machine.specs.CellRules.{is_input_pin, is_condition, is_check, is_arc}
use Rattle.cell_machine.specs.Values.{IsBounded}
use Rattle.cell_machine.specs.Inputs.{is_input_at, input_number}
use Rattle.cell_machine.specs.Supports.{CheckFacts}
use Rattle.cell_machine.proofs.CellFacts.{input-below, list_all-implied, name_bound-below}
use Rattle.cell_machine.proofs.RuleLemmas.{few_pins, checks_hold, arcs_hold, check_parts, arc_condition}
use Rattle.cell_machine.proofs.OutputFacts.{all-at}

-- a test that all in the support pass is passed by all names as they are written
inserted-passes :
    (p : ℕ → Bool) (i : ℕ) (js : List ℕ)
    → IsTrue (list_all p (inserted i js)) → IsTrue (p i) × IsTrue (list_all p js)
inserted-passes p i [] h = ((and_parts (p i) true h).0, refl)
inserted-passes p i (j ∷ js) h = by (i == j) refl (nat_lt i j) h (λ k. inserted-passes p i js k)
  where
    by :
        (b : Bool) → i == j ≡ b → (c : Bool)
        → IsTrue (list_all p (if b then j ∷ js else (if c then i ∷ (j ∷ js) else j ∷ inserted i js)))
        → (IsTrue (list_all p (inserted i js)) → IsTrue (p i) × IsTrue (list_all p js))
        → IsTrue (p i) × IsTrue (list_all p (j ∷ js))
    by true e c k rest = (subst (λ x. IsTrue (p x)) (sym (eqb-true i j e)) (and_parts (p j) (list_all p js) k).0, k)
    by false e true k rest = and_parts (p i) (list_all p (j ∷ js)) k
    by false e false k rest =
        let parts = and_parts (p j) (list_all p (inserted i js)) k in
        let more = rest parts.1 in
        (more.0, and_from (p j) (list_all p js) parts.0 more.1)

pub support-passes :
    (p : ℕ → Bool) (js is : List ℕ) → IsTrue (list_all p (insert_all js is)) → IsTrue (list_all p js) × IsTrue (list_all p is)
support-passes p js [] h = (h, refl)
support-passes p js (i ∷ is) h =
    let rest = support-passes p (inserted i js) is h in
    let here = inserted-passes p i js rest.0 in
    (here.1, and_from (p i) (list_all p is) here.0 rest.1)

count-cons :
    (pin : Pin) (pins : List Pin)
    → count_by is_input_at (pin ∷ pins) ≡ cond (is_input_at pin) 1 0 + count_by is_input_at pins
count-cons pin pins = sum_by-cons (λ x. cond (is_input_at x) 1 0) pin pins

-- the number of an input pin is below the number of inputs
pub input_number-below :
    (pins : List Pin) (p : ℕ) → IsTrue (is_input_pin pins p) → input_number pins p < count_by is_input_at pins
input_number-below [] p h = absurd cc
input_number-below (pin ∷ pins) zero h =
    let first : is_input_at pin ≡ true = h in
    let split = count-cons pin pins in
    let one : ◌≡◌ {A = ℕ} (cond (is_input_at pin) 1 0) 1 = ap (λ b. cond b 1 0) first in
    omega (arith, split, one)
input_number-below (pin ∷ pins) (suc p) h =
    let rest = input_number-below pins p h in
    omega (arith, rest, count-cons pin pins, count-cons pin (take p pins))

condition-bounded :
    (pins : List Pin) (apart : List ℕ) (f : Option Node)
    → length pins ≤ 64 → IsTrue (is_condition pins apart f) → IsBounded f
condition-bounded pins apart None few h = tt
condition-bounded pins apart (Some f) few h =
    let named = (and_parts _ _ (and_parts _ _ h).1).1 in
    name_bound-below 96 f
    (support-passes (λ i. nat_lt i 96) [] (names_of f)
    (list_all-implied (λ i. is_input_pin pins i && not (has apart i)) (λ i. nat_lt i 96) (support_of f)
    (λ i k. let below : i < length pins = input-below pins i (and_parts _ _ k).0 in lt-ltb i 96 (omega arith))
    named)).1

pub cell_check_facts :
    (cell : Cell) (i : ℕ) (k : Check) → slice_get cell.checks i ≡ Some k → CheckFacts cell.pins k
cell_check_facts cell i k e =
    let parts = check_parts cell.pins k (all-at (is_check cell.pins) cell.checks i k (checks_hold cell) e) in
    record {
      bounded = condition-bounded cell.pins (k.first.pin ∷ k.second.pin ∷ []) k.condition (few_pins cell) parts.enabled;
      first = input_number-below cell.pins k.first.pin parts.first;
      second = input_number-below cell.pins k.second.pin parts.second;
    }

pub cell_arc_bounded :
    (cell : Cell) (i : ℕ) (arc : Arc) → slice_get cell.arcs i ≡ Some arc → IsBounded arc.condition
cell_arc_bounded cell i arc e =
    condition-bounded cell.pins (arc.from ∷ []) arc.condition (few_pins cell)
    (arc_condition cell.pins arc (all-at (is_arc cell.pins) cell.arcs i arc (arcs_hold cell) e))
