-- The values of a function that are kept beside its tree.
use Rattle.std.specs.Prelude.{◌≡◌, ◌≤◌, ◌^◌, length, slice_get, EachIndex, Option, Some, None, ⊤}
use Rattle.bool_functions.specs.declared.tree.Node.{Node}
use Rattle.bool_functions.specs.declared.kept_values.KeptValues.{KeptValues}
use Rattle.bool_functions.specs.Tree.{value_by}
use Rattle.bool_functions.specs.Point.{entry_of, HasValues}
use Rattle.bool_functions.specs.Support.{support_of}

-- these are the values of a tree at all points over the names that are written in it, of which there are at most 10
pub record AreOf (f : Node) (kept : KeptValues) : Type 0 where
  pub names : kept.names.items ≡ support_of f
  pub few : length kept.names.items ≤ 10
  pub values : HasValues kept.names.items f kept.values.items
  pub count : length kept.values.items ≡ 2 ^ length kept.names.items
  pub entries : EachIndex kept.values.items (λ k. slice_get kept.values.items k ≡ Some (value_by (entry_of kept.names.items k) f))

-- where values are kept, they are the tree's
abbrev pub AreOfTree : Node → Option KeptValues → Type 0
AreOfTree f None = ⊤
AreOfTree f (Some kept) = AreOf f kept
