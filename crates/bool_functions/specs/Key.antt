-- A number of a tree: equal trees have equal ones, so trees with unlike ones are unlike.
use Rattle.std.specs.Prelude.{ℕ, ◌+◌, ◌*◌, ◌%◌}
use Rattle.bool_functions.specs.declared.tree.Node.{Node}
use Rattle.bool_functions.specs.declared.tree.Node.TheOpen.{Node-F}
use Rattle.bool_functions.specs.declared.tree.Node.TheFolds.{fold-Node}

-- two numbers in one of 64 bits
abbrev pub mixed : ℕ → ℕ → ℕ
mixed a b = (a * 6364136223846793005 % 18446744073709551616 + b) % 18446744073709551616

abbrev pub key_step : Node-F ℕ → ℕ
key_step Node-F.Zero = 1
key_step Node-F.One = 2
key_step (Node-F.Name i) = mixed 3 i
key_step (Node-F.Not f) = mixed 4 f
key_step (Node-F.Xor f g) = mixed (mixed 5 f) g
key_step (Node-F.And f g) = mixed (mixed 6 f) g
key_step (Node-F.Or f g) = mixed (mixed 7 f) g

abbrev pub key_of : Node → ℕ
key_of = fold-Node ℕ key_step
