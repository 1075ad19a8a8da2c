-- The conditions of a cell: each names 1 to 10 pins, and there are not many.
use Rattle.std.proofs.Common.{◌≡◌, ℕ, ◌+◌, ◌*◌, ◌≤◌, Bool, true, false, ◌&&◌, IsTrue, List, [], ◌∷◌, ◌++◌, length, filter, inl}
use Rattle.std.proofs.Common.{inr, subst, arith, Option, Some, None, nat_lt, nat_le, if◌then◌else◌, length-append}
use Rattle.std.specs.List.{list_any, list_all, flat_map}
use Rattle.std.proofs.lemmas.Bool.{and_parts, and_from}
use Rattle.std.proofs.lemmas.List.Sums.{length-filter, count_by-le-length}
use Rattle.trit_cubes.proofs.ListLemmas.{Among}
use Rattle.bool_functions.specs.declared.tree.Node.{Node}
use Rattle.bool_functions.specs.Support.{support_of}
use Rattle.bool_functions.specs.SameTrees.{same_tree}
use Rattle.cell_machine.specs.declared.pins.Pin.{Pin}
use Rattle.cell_machine.specs.declared.checks.Check.{Check}
use Rattle.cell_machine.specs.declared.arcs.Arc.{Arc}
use Rattle.cell_machine.specs.CellRules.{is_condition, is_check, is_arc}
use Rattle.cell_machine.specs.CellTrace.{same_pins}
use Rattle.cell_machine.specs.CellData.{CellData}
use Rattle.cell_machine.proofs.RuleLemmas.{check_parts, arc_condition}
use Rattle.udp_tables.specs.Conditions.{condition_list, conditions_by, arc_conditions, added, added_all, conditions_of}
use Rattle.verilog_grammar.proofs.specify_blocks.cell_tables.ConditionUses.{all-among, conditions-each}

-- a function of 1 to 10 names
abbrev pub has_places : Node → Bool
has_places f = nat_lt 0 (length (support_of f)) && nat_le (length (support_of f)) 10

placed : (pins : List Pin) (apart : List ℕ) (o : Option Node) (f : Node) → IsTrue (is_condition pins apart o)
    → Among f (condition_list o) → IsTrue (has_places f)
placed pins apart None f h m = absurd m
placed pins apart (Some g) f h m =
    let some = and_parts (nat_lt 0 (length (support_of g))) _ h in
    let few = and_parts (nat_le (length (support_of g)) 10) _ some.1 in
    elim m [
      | inl e ↦ subst (λ t. IsTrue (has_places t)) e
          (and_from (nat_lt 0 (length (support_of g))) (nat_le (length (support_of g)) 10) some.0 few.0)
      | inr k ↦ absurd k
    ]

pub condition_placed :
    (cell : CellData) → IsTrue (list_all (is_check cell.pins) cell.checks) → IsTrue (list_all (is_arc cell.pins) cell.arcs)
    → (f : Node) → Among f (conditions_of cell) → IsTrue (has_places f)
condition_placed cell checks arcs =
    conditions-each (λ f. IsTrue (has_places f)) cell
    (λ k m f h.
    placed cell.pins (k.first.pin ∷ k.second.pin ∷ []) k.condition f
    (check_parts cell.pins k (all-among (is_check cell.pins) cell.checks k checks m)).enabled h)
    (λ arc m f h. placed cell.pins (arc.from ∷ []) arc.condition f
    (arc_condition cell.pins arc (all-among (is_arc cell.pins) cell.arcs arc arcs m)) h)

-- how many there are

optional_short : (o : Option Node) → length (condition_list o) ≤ 1
optional_short None = omega arith
optional_short (Some f) = omega arith

one_each : (arcs : List Arc) → length (flat_map (λ (other : Arc). condition_list other.condition) arcs) ≤ length arcs
one_each [] = omega arith
one_each (arc ∷ arcs) =
    let whole = length-append (condition_list arc.condition) (flat_map (λ (other : Arc). condition_list other.condition) arcs) in
    omega (arith, whole, optional_short arc.condition, one_each arcs)

arc_short : (arcs : List Arc) (arc : Arc) → length arcs ≤ 1024 → length (arc_conditions arcs arc) ≤ 1024
arc_short arcs arc few = by arc.condition
  where
    by : (o : Option Node) → length (conditions_by arcs arc o) ≤ 1024
    by None =
        let beside : List Arc = filter (same_pins arc) arcs in
        omega (arith, few, one_each beside, length-filter (same_pins arc) arcs, count_by-le-length (same_pins arc) arcs)
    by (Some f) = omega arith

each_short : {X : Type 0} (g : X → List Node) → ((x : X) → length (g x) ≤ 1024) → (xs : List X)
    → length (flat_map g xs) ≤ 1024 * length xs
each_short g h [] = omega arith
each_short g h (x ∷ xs) =
    let whole = length-append (g x) (flat_map g xs) in
    let first = h x in
    omega (arith, whole, first, each_short g h xs)

added_short : (trees : List Node) (f : Node) → length (added trees f) ≤ length trees + 1
added_short trees f = by (list_any (same_tree f) trees)
  where
    by : (b : Bool) → length (if b then trees else trees ++ f ∷ []) ≤ length trees + 1
    by true = omega arith
    by false = let whole = length-append trees (f ∷ []) in omega (arith, whole)

all_added_short : (trees fs : List Node) → length (added_all trees fs) ≤ length trees + length fs
all_added_short trees [] = omega arith
all_added_short trees (f ∷ fs) = omega (arith, all_added_short (added trees f) fs, added_short trees f)

pub few_conditions : (cell : CellData) → length cell.checks ≤ 256 → length cell.arcs ≤ 1024
    → length (conditions_of cell) ≤ 2000000
few_conditions cell checks arcs =
    let of_checks : List Node = flat_map (λ (k : Check). condition_list k.condition) cell.checks in
    let of_arcs : List Node = flat_map (arc_conditions cell.arcs) cell.arcs in
    let first : length of_checks ≤ 1024 * length cell.checks
    = each_short (λ (k : Check). condition_list k.condition) (λ k. let one = optional_short k.condition
    in omega (arith, one)) cell.checks in
    let second : length of_arcs ≤ 1024 * length cell.arcs =
    each_short (arc_conditions cell.arcs) (λ arc. arc_short cell.arcs arc arcs) cell.arcs in
    let whole : length (of_checks ++ of_arcs) ≡ length of_checks + length of_arcs = length-append of_checks of_arcs in
    let all : length (conditions_of cell) ≤ 0 + length (of_checks ++ of_arcs) = all_added_short [] (of_checks ++ of_arcs) in
    omega (arith, all, whole, first, second, checks, arcs)
