-- Arcs with the same ends and the same condition are one arc (this project's rule).
use Rattle.std.specs.Prelude.{ℕ, Bool, true, false, ◌&&◌, ◌==◌, List, [], ◌∷◌, map, filter, Option, Some, None, if◌then◌else◌}
use Rattle.std.specs.List.{list_any}
use Rattle.bool_functions.specs.declared.tree.Node.{Node}
use Rattle.bool_functions.specs.SameTrees.{same_tree}
use Rattle.cell_machine.specs.declared.arcs.Arc.{Arc}
use Rattle.timing_arcs.specs.Tables.{greatest}

-- Whether two conditions are equal: the same tree, or none.
abbrev pub same_condition : Option Node → Option Node → Bool
same_condition None None = true
same_condition None (Some g) = false
same_condition (Some f) None = false
same_condition (Some f) (Some g) = same_tree f g

-- Whether two arcs have the same ends and the same condition.
abbrev pub same_path : Arc → Arc → Bool
same_path a b = a.from == b.from && (a.to == b.to && same_condition a.condition b.condition)

-- An arc, and the offset of the timing group that made it.
pub record Placed : Type 0 where
  pub arc : Arc
  pub at : ℕ

-- Of arcs with the same ends and the same condition the first, after these.
abbrev pub firsts_after : List Arc → List Placed → List Placed
firsts_after earlier [] = []
firsts_after earlier (p ∷ ps) =
    if list_any (same_path p.arc) earlier then firsts_after earlier ps else p ∷ firsts_after (p.arc ∷ earlier) ps

abbrev pub firsts : List Placed → List Placed
firsts made = firsts_after [] made

-- All arcs with its ends and its condition in one: the greatest rise and the greatest fall of them.
abbrev pub merged_into : List Placed → Arc → Arc
merged_into made arc =
    record arc {
      rise = greatest (map (λ (p : Placed). p.arc.rise) (filter (λ (p : Placed). same_path p.arc arc) made));
      fall =
          greatest (map (λ (p : Placed). p.arc.fall) (filter (λ (p : Placed). same_path p.arc arc) made));
    }

-- The arcs that are left, each in the place of the first of those that it stands for.
abbrev pub merged : List Placed → List Arc
merged made = map (λ (p : Placed). merged_into made p.arc) (firsts made)

-- The offset of the timing group that first made each.
abbrev pub merged_at : List Placed → List ℕ
merged_at made = map (λ (p : Placed). p.at) (firsts made)
