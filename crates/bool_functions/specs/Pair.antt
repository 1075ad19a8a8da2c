-- Operators of two parts over trees for which memory may be wanting.
use Rattle.std.specs.Prelude.{◌≡◌, Result, Ok, Err}
use Rattle.bool_functions.specs.declared.tree.Pair.{Pair}
use Rattle.bool_functions.specs.declared.tree.Pair.TheVariants as pair
use Rattle.bool_functions.specs.declared.tree.Node.{Node}
use Rattle.bool_functions.specs.declared.tree.Node.TheVariants as node

-- an operator over its parts
abbrev pub node_of : Pair → Node → Node → Node
node_of pair.Xor f g = node.Xor f g
node_of pair.And f g = node.And f g
node_of pair.Or f g = node.Or f g

-- both parts were made, and this is the operator over them
abbrev pub Joins : {E : Type 0} → Pair → Result Node E → Result Node E → Node → Type 0
Joins op (Ok f) (Ok g) h = h ≡ node_of op f g
Joins op (Ok f) (Err e) h = ⊥
Joins op (Err e) right h = ⊥
