-- When two function trees are equal.
use Rattle.std.specs.Prelude.{Bool, true, false, ◌&&◌, ◌==◌}
use Rattle.bool_functions.specs.declared.tree.Node.{Node, out-Node}
use Rattle.bool_functions.specs.declared.tree.Node.TheOpen.{Node-F}
use Rattle.bool_functions.specs.declared.tree.Node.TheFolds.{fold-Node}

-- whether an operator over parts, each of which tells the trees that equal it, equals that of a tree
abbrev pub same_step : Node-F (Node → Bool) → Node-F Node → Bool
same_step Node-F.Zero Node-F.Zero = true
same_step Node-F.One Node-F.One = true
same_step (Node-F.Name i) (Node-F.Name j) = i == j
same_step (Node-F.Not f) (Node-F.Not g) = f g
same_step (Node-F.Xor f h) (Node-F.Xor g k) = f g && h k
same_step (Node-F.And f h) (Node-F.And g k) = f g && h k
same_step (Node-F.Or f h) (Node-F.Or g k) = f g && h k
same_step _ _ = false

-- whether two trees are equal
abbrev pub same_tree : Node → Node → Bool
same_tree = fold-Node (Node → Bool) (λ layer other. same_step layer (out-Node other))
