-- The conditions of a cell: what holds of those of its checks and arcs holds of each, and each that a check or an arc names has
-- its number.
use Rattle.std.proofs.Common.{◌≡◌, ℕ, ◌<◌, Bool, true, false, not, ◌&&◌, List, [], ◌∷◌, ◌++◌, length, ◌⊎◌, inl, inr, refl, sym}
use Rattle.std.proofs.Common.{subst, IsTrue, Option, Some, None, flat_map, if◌then◌else◌}
use Rattle.std.specs.Prelude.{filter}
use Rattle.std.specs.List.{list_any, list_all}
use Rattle.std.proofs.lemmas.Bool.{and_parts}
use Rattle.bool_functions.specs.declared.tree.Node.{Node}
use Rattle.bool_functions.specs.Support.{support_of}
use Rattle.trit_cubes.proofs.ListLemmas.{Among, among-contains, among-append, append-among_left, append-among_right, among-filter}
use Rattle.cell_machine.specs.declared.pins.Pin.{Pin}
use Rattle.cell_machine.specs.declared.checks.Check.{Check}
use Rattle.cell_machine.specs.declared.arcs.Arc.{Arc}
use Rattle.cell_machine.specs.Names.{has}
use Rattle.cell_machine.specs.CellRules.{is_input_pin, is_condition, is_check, is_arc}
use Rattle.cell_machine.specs.CellTrace.{same_pins}
use Rattle.cell_machine.proofs.CellFacts.{list_all-implied}
use Rattle.cell_machine.proofs.RuleLemmas.{check_parts, arc_condition}
use Rattle.bool_functions.specs.SameTrees.{same_tree}
use Rattle.cell_machine.specs.CellData.{CellData}
use Rattle.udp_tables.specs.Conditions.{condition_list, conditions_by, arc_conditions, used_conditions, added, added_all}
use Rattle.udp_tables.specs.Conditions.{conditions_of, condition_place}
use Rattle.cell_tables.proofs.CellLaws.{conditions_are_numbered-lem}

-- a test of all elements, at one of them
pub all-among : {X : Type 0} (p : X → Bool) (xs : List X) (x : X) → IsTrue (list_all p xs) → Among x xs → IsTrue (p x)
all-among p [] x h m = absurd m
all-among p (y ∷ ys) x h m =
    let both = and_parts (p y) (list_all p ys) h in
    elim m [ inl e ↦ subst (λ z. IsTrue (p z)) e both.0 | inr k ↦ all-among p ys x both.1 k ]

-- what one of the elements gives
flat-among : {X Y : Type 0} (f : X → List Y) (y : Y) (xs : List X) (x : X) → Among x xs → Among y (f x) → Among y (flat_map f xs)
flat-among f y [] x m k = absurd m
flat-among f y (z ∷ zs) x m k =
    elim m [
      | inl e ↦ append-among_left y (f z) (flat_map f zs) (subst (λ w. Among y (f w)) (sym e) k)
      | inr n ↦ append-among_right y (f z) (flat_map f zs) (flat-among f y zs x n k)
    ]

among-flat : {X Y : Type 0} (f : X → List Y) (y : Y) (xs : List X) → Among y (flat_map f xs) → (x : X) × Among x xs
    × Among y (f x)
among-flat f y [] m = absurd m
among-flat f y (x ∷ xs) m =
    elim (among-append y (f x) (flat_map f xs) m) [
      | inl h ↦ (x, inl refl, h)
      | inr h ↦ let r = among-flat f y xs h in (r.0, inr r.1, r.2)
    ]

-- a condition of a cell has a number
abbrev IsNumbered : CellData → Node → Type 0
IsNumbered cell f = condition_place (conditions_of cell) f < length (conditions_of cell)

used-numbered : (cell : CellData) (f : Node) → Among f (used_conditions cell) → IsNumbered cell f
used-numbered cell f m = conditions_are_numbered-lem cell f (among-contains f (used_conditions cell) m)

-- so has one that a check or an arc names
pub check-numbered : (cell : CellData) (k : Check) (f : Node) → Among k cell.checks → Among f (condition_list k.condition)
    → IsNumbered cell f
check-numbered cell k f m h =
    used-numbered cell f (append-among_left f _ _ (flat-among (λ (k : Check). condition_list k.condition) f cell.checks k m h))

pub arc-numbered : (cell : CellData) (arc : Arc) (f : Node) → Among arc cell.arcs → Among f (arc_conditions cell.arcs arc)
    → IsNumbered cell f
arc-numbered cell arc f m h = used-numbered cell f (append-among_right f _ _ (flat-among (arc_conditions cell.arcs) f cell.arcs arc m h))

-- what trees are added to a list
added-among : (trees : List Node) (f g : Node) (b : Bool) → Among g (if b then trees else trees ++ f ∷ []) → Among g trees
    ⊎ (f ≡ g)
added-among trees f g true m = inl m
added-among trees f g false m =
    elim (among-append g trees (f ∷ []) m) [
      | inl h ↦ inl h
      | inr h ↦ elim h [ inl e ↦ inr e | inr k ↦ absurd k ]
    ]

all-added-among : (trees fs : List Node) (g : Node) → Among g (added_all trees fs) → Among g trees ⊎ Among g fs
all-added-among trees [] g m = inl m
all-added-among trees (f ∷ fs) g m =
    elim (all-added-among (added trees f) fs g m) [
      | inl h ↦
          elim (added-among trees f g (list_any (same_tree f) trees) h) [
            | inl k ↦ inl k
            | inr e ↦ inr (inl e)
          ]
      | inr h ↦ inr (inr h)
    ]

-- what holds of the conditions of checks and of arcs holds of all
module _
    (P : Node → Type 0) (cell : CellData)
    (of_checks : (k : Check) → Among k cell.checks → (f : Node) → Among f (condition_list k.condition) → P f)
    (of_arcs : (arc : Arc) → Among arc cell.arcs → (f : Node) → Among f (condition_list arc.condition) → P f) where
  of_arc :
      (arc : Arc) (o : Option Node) (f : Node)
      → (Among f (condition_list o) → P f) → Among f (conditions_by cell.arcs arc o) → P f
  of_arc arc (Some g) f own m = own m
  of_arc arc None f own m =
      let r = among-flat (λ (other : Arc). condition_list other.condition) f (filter (same_pins arc) cell.arcs) m in
      of_arcs r.0 (among-filter (same_pins arc) r.0 cell.arcs r.1).0 f r.2

  pub conditions-each : (f : Node) → Among f (conditions_of cell) → P f
  conditions-each f m =
      elim (all-added-among [] (used_conditions cell) f m) [
        | inl h ↦ absurd h
        | inr h ↦
            elim (among-append f (flat_map (λ (k : Check). condition_list k.condition) cell.checks)
            (flat_map (arc_conditions cell.arcs) cell.arcs) h) [
              | inl k ↦ let r = among-flat (λ (k : Check). condition_list k.condition) f cell.checks k in of_checks r.0 r.1 f r.2
              | inr k ↦
                  let r = among-flat (arc_conditions cell.arcs) f cell.arcs k in
                  of_arc r.0 r.0.condition f (λ own. of_arcs r.0 r.1 f own) r.2
            ]
      ]

-- a function over input pins alone
abbrev pub is_over : List Pin → Node → Bool
is_over pins f = list_all (is_input_pin pins) (support_of f)

over : (pins : List Pin) (apart : List ℕ) (o : Option Node) (f : Node) → IsTrue (is_condition pins apart o)
    → Among f (condition_list o) → IsTrue (is_over pins f)
over pins apart None f h m = absurd m
over pins apart (Some g) f h m =
    elim m [
      | inl e ↦
          subst (λ t. IsTrue (is_over pins t)) e
          (list_all-implied (λ i. is_input_pin pins i && not (has apart i)) (is_input_pin pins) (support_of g)
          (λ i k. (and_parts (is_input_pin pins i) (not (has apart i)) k).0) (and_parts _ _ (and_parts _ _ h).1).1)
      | inr k ↦ absurd k
    ]

-- each condition of a cell is over its input pins
pub condition-over :
    (cell : CellData) → IsTrue (list_all (is_check cell.pins) cell.checks) → IsTrue (list_all (is_arc cell.pins) cell.arcs)
    → (f : Node) → Among f (conditions_of cell) → IsTrue (is_over cell.pins f)
condition-over cell checks arcs =
    conditions-each (λ f. IsTrue (is_over cell.pins f)) cell
    (λ k m f h.
    over cell.pins (k.first.pin ∷ k.second.pin ∷ []) k.condition f
    (check_parts cell.pins k (all-among (is_check cell.pins) cell.checks k checks m)).enabled h)
    (λ arc m f h. over cell.pins (arc.from ∷ []) arc.condition f
    (arc_condition cell.pins arc (all-among (is_arc cell.pins) cell.arcs arc arcs m)) h)
