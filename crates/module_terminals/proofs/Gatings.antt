-- The conditions of checks and paths, and the wires of a module that stand for them.
use Rattle.std.proofs.Common.{◌≡◌, ℕ, zero, suc, ◌<◌, ◌≤◌, Bool, List, ◌∷◌, [], not, ◌&&◌, length, Option, None, Some, slice_get}
use Rattle.std.proofs.Common.{nat_lt, nat_le, IsTrue, refl, sym, ap, subst, ◌∙◌, arith, leb-true, true}
use Rattle.std.specs.List.{list_all}
use Rattle.std.specs.Option.{ForSome, option_and_then}
use Rattle.std.proofs.lemmas.Bool.{and_parts}
use Rattle.bool_functions.specs.declared.tree.Node.{Node}
use Rattle.bool_functions.specs.{Tree.name_bound, Support.support_of}
use Rattle.cell_machine.specs.declared.pins.Pin.{Pin}
use Rattle.cell_machine.specs.declared.checks.Check.{Check}
use Rattle.cell_machine.specs.declared.arcs.Arc.{Arc}
use Rattle.cell_machine.specs.declared.cells.Cell.{Cell}
use Rattle.cell_machine.specs.CellData.{CellData}
use Rattle.cell_machine.specs.{Names.has, Values.IsBounded}
use Rattle.cell_machine.specs.CellRules.{is_input_pin, is_condition, is_check, is_arc}
use Rattle.cell_machine.proofs.RuleLemmas.{checks_hold, arcs_hold, check_parts, arc_condition}
use Rattle.cell_machine.proofs.OutputFacts.{all-at}
use Rattle.specify_blocks.specs.declared.model.VModule.{VModule}
use Rattle.module_terminals.specs.Feeding.{Gating, gating, gating_of, feeds_condition, feeds_gating}

-- a condition of a cell has few names, which are not great
pub bounded_condition : (o : Option Node) → IsBounded o → ForSome o (λ f. name_bound f ≤ 96)
bounded_condition None h = λ f e. absurd cc
bounded_condition (Some g) h = λ f e. let same : g ≡ f = cc in subst (λ n. name_bound n ≤ 96) same h

few-names : (pins : List Pin) (apart : List ℕ) (o : Option Node) → IsTrue (is_condition pins apart o)
    → ForSome o (λ f. length (support_of f) ≤ 10)
few-names pins apart None h = λ f e. absurd cc
few-names pins apart (Some g) h = λ f e.
    let rules : Bool = list_all (λ i. is_input_pin pins i && not (has apart i)) (support_of g) in
    let one = and_parts (nat_lt 0 (length (support_of g))) (nat_le (length (support_of g)) 10 && rules) h in
    let same : g ≡ f = cc in
    subst (λ n. length (support_of n) ≤ 10) same
    (leb-true (length (support_of g)) 10 (and_parts (nat_le (length (support_of g)) 10) rules one.1).0)

pub check_few : (cell : Cell) (i : ℕ) (k : Check) → slice_get cell.checks i ≡ Some k
    → ForSome k.condition (λ f. length (support_of f) ≤ 10)
check_few cell i k e =
    few-names cell.pins (k.first.pin ∷ k.second.pin ∷ []) k.condition
    (check_parts cell.pins k (all-at (is_check cell.pins) cell.checks i k (checks_hold cell) e)).enabled

pub arc_few : (cell : Cell) (i : ℕ) (arc : Arc) → slice_get cell.arcs i ≡ Some arc
    → ForSome arc.condition (λ f. length (support_of f) ≤ 10)
arc_few cell i arc e =
    few-names cell.pins (arc.from ∷ []) arc.condition
    (arc_condition cell.pins arc (all-at (is_arc cell.pins) cell.arcs i arc (arcs_hold cell) e))

-- the condition of an entry and its wire, where the module's list has one; where that list ends no condition is compared
pub gating_at :
    {X Y : Type 0} (condition : X → Option Node) (wire : Y → Option ℕ) (o : Option X) (p : Option Y) (x : X)
    → o ≡ Some x → gating (condition x) (option_and_then wire p) ≡ gating_of condition wire o p
gating_at condition wire o None x e = no_wire (condition x) ∙ ap (λ q. gating_of condition wire q None) (sym e)
  where
    no_wire : (q : Option Node) → gating q None ≡ None
    no_wire None = refl
    no_wire (Some f) = refl
gating_at condition wire o (Some y) x e = ap (λ q. gating_of condition wire q (Some y)) (sym e)

-- a condition at a place
pub gating-below :
    {X Y : Type 0} (condition : X → Option Node) (wire : Y → Option ℕ) (xs : List X) (o : Option Y) (i : ℕ) (u : Gating)
    → gating_of condition wire (slice_get xs i) o ≡ Some u → i < length xs
gating-below condition wire [] o i u e = absurd cc
gating-below condition wire (x ∷ xs) o zero u e = omega arith
gating-below condition wire (x ∷ xs) o (suc i) u e = omega (arith, gating-below condition wire xs o i u e)

pub feeds-at : (d : CellData) (m : VModule) (o : Option Gating) (u : Gating) → feeds_gating d m o ≡ true → o ≡ Some u
    → feeds_condition d m u ≡ true
feeds-at d m o u h e = sym (ap (feeds_gating d m) e) ∙ h

pub at-feeds : (d : CellData) (m : VModule) (o : Option Gating) → ((u : Gating) → o ≡ Some u → feeds_condition d m u ≡ true)
    → feeds_gating d m o ≡ true
at-feeds d m None h = refl
at-feeds d m (Some u) h = h u refl
