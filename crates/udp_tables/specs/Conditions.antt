-- The conditions of a cell, in the order in which its models number them (this project's choice): by first use, checks
-- before arcs, equal trees once.
use Rattle.std.specs.Prelude.{ℕ, ◌+◌, ◌≤◌, length, List, [], ◌∷◌, ◌++◌, Option, Some, None, filter, flat_map, if◌then◌else◌}
use Rattle.std.specs.List.{list_any}
use Rattle.cell_machine.specs.bool_functions.declared.tree.Node.{Node}
use Rattle.cell_machine.specs.bool_functions.Tree.{name_bound}
pub use Rattle.cell_machine.specs.bool_functions.Support.{support_of}
use Rattle.cell_machine.specs.declared.checks.Check.{Check}
use Rattle.cell_machine.specs.declared.arcs.Arc.{Arc}
use Rattle.cell_machine.specs.CellTrace.{same_pins}
pub use Rattle.cell_machine.specs.Outputs.{condition_at}
use Rattle.cell_machine.specs.bool_functions.SameTrees.{same_tree}
use Rattle.cell_machine.specs.CellData.{CellData}

-- a condition that may be absent, as a list
abbrev pub condition_list : Option Node → List Node
condition_list None = []
condition_list (Some f) = f ∷ []

-- the conditions of all arcs that have the two pins of an arc, in their order
abbrev pub conditions_beside : List Arc → Arc → List Node
conditions_beside arcs arc = flat_map (λ (other : Arc). condition_list other.condition) (filter (same_pins arc) arcs)

-- What an arc uses: its condition. One without uses those of all arcs of its two pins, since it is active where they are
-- all 0 (IEEE 1364-2005, clause 14.2.4.4: ifnone).
abbrev pub conditions_by : List Arc → Arc → Option Node → List Node
conditions_by arcs arc None = conditions_beside arcs arc
conditions_by arcs arc (Some f) = f ∷ []

abbrev pub arc_conditions : List Arc → Arc → List Node
arc_conditions arcs arc = conditions_by arcs arc arc.condition

-- what the checks and then the arcs of a cell use
abbrev pub used_conditions : CellData → List Node
used_conditions cell =
    flat_map (λ (k : Check). condition_list k.condition) cell.checks ++ flat_map (arc_conditions cell.arcs) cell.arcs

-- the trees, and one more where it is not among them
abbrev pub added : List Node → Node → List Node
added trees f = if list_any (same_tree f) trees then trees else trees ++ f ∷ []

-- the same of several trees, one after another
abbrev pub added_all : List Node → List Node → List Node
added_all trees [] = trees
added_all trees (f ∷ fs) = added_all (added trees f) fs

-- The conditions of a cell: condition i, from 0, is entry i.
abbrev pub conditions_of : CellData → List Node
conditions_of cell = added_all [] (used_conditions cell)

-- the number of a condition: the place of the first tree that equals it, or their count where none does
abbrev pub condition_place : List Node → Node → ℕ
condition_place [] f = 0
condition_place (g ∷ gs) f = if same_tree f g then 0 else condition_place gs f + 1

-- a condition as its primitive needs it: at most ten names, all below 96
pub record IsSmall (f : Node) : Type 0 where
  pub few : length (support_of f) ≤ 10
  pub bounded : name_bound f ≤ 96
