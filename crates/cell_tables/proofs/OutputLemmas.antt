-- The conditions and outputs of a cell, by their numbers.
use Rattle.std.proofs.Common.{◌≡◌, ℕ, zero, suc, ◌<◌, ◌≤◌, Bool, not, ◌&&◌, List, [], ◌∷◌, length, slice_get, slice_index_or}
use Rattle.std.proofs.Common.{Option, Some, None, IsTrue, nat_lt, nat_le, inl, inr, sym, ◌∙◌, ap, subst, arith, map}
use Rattle.std.specs.List.{list_all}
use Rattle.std.proofs.lemmas.Bool.{and_parts, lt-ltb, leb-true}
use Rattle.std.proofs.lemmas.List.{get_or-map, length-map}
use Rattle.trit_cubes.proofs.ListLemmas.{Among}
use Rattle.bool_functions.specs.declared.tree.Node.{Node}
use Rattle.bool_functions.specs.Tree.{names_of}
use Rattle.bool_functions.specs.Support.{support_of}
use Rattle.cell_machine.specs.declared.pins.Pin.{Pin}
use Rattle.cell_machine.specs.declared.checks.Check.{Check}
use Rattle.cell_machine.specs.declared.arcs.Arc.{Arc}
use Rattle.cell_machine.specs.declared.cells.Cell.{Cell}
use Rattle.cell_machine.specs.Names.{has}
use Rattle.cell_machine.specs.CellRules.{is_input_pin, is_condition, is_check, is_arc}
use Rattle.cell_machine.proofs.RuleLemmas.{few_pins, checks_hold, arcs_hold, check_parts, arc_condition}
use Rattle.cell_machine.proofs.CellFacts.{input-below, list_all-implied, name_bound-below}
use Rattle.cell_machine.proofs.TimingFacts.{support-passes}
use Rattle.cell_machine.specs.CellData.{data_of}
use Rattle.udp_tables.specs.Conditions.{condition_list, conditions_of, IsSmall}
use Rattle.cell_tables.proofs.ConditionUses.{all-among, conditions-each}

-- a condition that keeps the rules is small
small-of :
    (pins : List Pin) (apart : List ℕ) (o : Option Node) (f : Node)
    → length pins ≤ 64 → IsTrue (is_condition pins apart o) → Among f (condition_list o) → IsSmall f
small-of pins apart None f few h m = absurd m
small-of pins apart (Some g) f few h m =
    elim m [
      | inl e ↦ subst IsSmall e (small g h)
      | inr k ↦ absurd k
    ]
  where
    small : (g : Node) → IsTrue (is_condition pins apart (Some g)) → IsSmall g
    small g h =
        let rules : Bool = list_all (λ i. is_input_pin pins i && not (has apart i)) (support_of g) in
        let one = and_parts (nat_lt 0 (length (support_of g))) (nat_le (length (support_of g)) 10 && rules) h in
        let two = and_parts (nat_le (length (support_of g)) 10) rules one.1 in
        record {
          few = leb-true (length (support_of g)) 10 two.0;
          bounded =
              name_bound-below 96 g
              (support-passes (λ i. nat_lt i 96) [] (names_of g)
              (list_all-implied (λ i. is_input_pin pins i && not (has apart i)) (λ i. nat_lt i 96) (support_of g)
              (λ i k. let below : i < length pins = input-below pins i (and_parts (is_input_pin pins i) (not (has apart i)) k).0
              in lt-ltb i 96 (omega arith))
              two.1)).1;
        }

check-small : (cell : Cell) (k : Check) (f : Node) → Among k cell.checks → Among f (condition_list k.condition) → IsSmall f
check-small cell k f m h =
    let parts = check_parts cell.pins k (all-among (is_check cell.pins) cell.checks k (checks_hold cell) m) in
    small-of cell.pins (k.first.pin ∷ k.second.pin ∷ []) k.condition f (few_pins cell) parts.enabled h

arc-small : (cell : Cell) (arc : Arc) (f : Node) → Among arc cell.arcs → Among f (condition_list arc.condition) → IsSmall f
arc-small cell arc f m h =
    small-of cell.pins (arc.from ∷ []) arc.condition f (few_pins cell)
    (arc_condition cell.pins arc (all-among (is_arc cell.pins) cell.arcs arc (arcs_hold cell) m)) h

-- each condition of a cell is small
pub conditions-small : (cell : Cell) (f : Node) → Among f (conditions_of (data_of cell)) → IsSmall f
conditions-small cell = conditions-each IsSmall (data_of cell) (λ k m f h. check-small cell k f m h)
    (λ arc m f h. arc-small cell arc f m h)

pub among-at : {X : Type 0} (xs : List X) (i : ℕ) (x : X) → slice_get xs i ≡ Some x → Among x xs
among-at [] i x e = absurd cc
among-at (y ∷ ys) zero x e = let same : y ≡ x = cc in inl same
among-at (y ∷ ys) (suc i) x e = inr (among-at ys i x e)

-- the condition with a number, of items that hold the conditions
pub condition-item :
    {B : Type 0} (items : List B) (now : B → Node) (conditions : List Node) (i : ℕ) (item : B) (d : Node)
    → map now items ≡ conditions → i < length conditions → item ≡ slice_index_or items i item
    → slice_index_or conditions i d ≡ now item
condition-item items now conditions i item d e l h =
    let long : length (map now items) ≡ length conditions = ap length e in
    ap (λ cs. slice_index_or cs i d) (sym e)
    ∙ get_or-map now items i item d (omega (arith, long, length-map items now)) ∙ ap now (sym h)
