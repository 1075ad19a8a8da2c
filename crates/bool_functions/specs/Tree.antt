-- What the tree of a function stands for (Liberty Reference Manual, attribute `function`).
use Rattle.std.specs.Prelude.{ℕ, ◌+◌, max, Bool, true, false, not, ◌&&◌, ◌||◌, List, [], ◌∷◌, ◌++◌, slice_index, slice_index_or}
use Rattle.std.specs.Prelude.{Contains}
use Rattle.bool_functions.specs.declared.tree.Node.{Node}
use Rattle.bool_functions.specs.declared.tree.Node.TheVariants as node
use Rattle.bool_functions.specs.declared.tree.Node.TheOpen.{Node-F}
use Rattle.bool_functions.specs.declared.tree.Node.TheFolds.{fold-Node}

-- exactly one of two
abbrev pub xor : Bool → Bool → Bool
xor true b = not b
xor false b = b

-- One operator, with the value of each part in its place: Liberty's `!` or `'`, `^`, `*` or `&`, `+` or `|`.
abbrev pub value_step : (ℕ → Bool) → Node-F Bool → Bool
value_step given Node-F.Zero = false
value_step given Node-F.One = true
value_step given (Node-F.Name i) = given i
value_step given (Node-F.Not f) = not f
value_step given (Node-F.Xor f g) = xor f g
value_step given (Node-F.And f g) = f && g
value_step given (Node-F.Or f g) = f || g

-- the value where each name has the value that is given for its number
abbrev pub value_by : (ℕ → Bool) → Node → Bool
value_by given = fold-Node Bool (value_step given)

-- the value at a list of bits, whose entry i is the value of the name i
abbrev pub value_of : List Bool → Node → Bool
value_of bits = value_by (λ i. slice_index_or bits i false)

-- the numbers of the names that are written in an operator's parts, from left to right
abbrev pub names_step : Node-F (List ℕ) → List ℕ
names_step Node-F.Zero = []
names_step Node-F.One = []
names_step (Node-F.Name i) = i ∷ []
names_step (Node-F.Not f) = f
names_step (Node-F.Xor f g) = f ++ g
names_step (Node-F.And f g) = f ++ g
names_step (Node-F.Or f g) = f ++ g

-- the numbers of the names as they are written, from left to right
abbrev pub names_of : Node → List ℕ
names_of = fold-Node (List ℕ) names_step

abbrev pub bound_step : Node-F ℕ → ℕ
bound_step Node-F.Zero = 0
bound_step Node-F.One = 0
bound_step (Node-F.Name i) = i + 1
bound_step (Node-F.Not f) = f
bound_step (Node-F.Xor f g) = max f g
bound_step (Node-F.And f g) = max f g
bound_step (Node-F.Or f g) = max f g

-- the least number that is above the number of each written name
abbrev pub name_bound : Node → ℕ
name_bound = fold-Node ℕ bound_step

-- the name i is written in the tree
abbrev pub Has : Node → ℕ → Type 0
Has f i = Contains (names_of f) i

-- One operator over the renamed parts, and the new number for a name.
abbrev pub renamed_step : List ℕ → Node-F Node → Node
renamed_step to Node-F.Zero = node.Zero
renamed_step to Node-F.One = node.One
renamed_step to (Node-F.Name i) = node.Name (slice_index to i)
renamed_step to (Node-F.Not f) = node.Not f
renamed_step to (Node-F.Xor f g) = node.Xor f g
renamed_step to (Node-F.And f g) = node.And f g
renamed_step to (Node-F.Or f g) = node.Or f g

-- the tree in which entry i of the list stands for each name i
abbrev pub renamed_by : List ℕ → Node → Node
renamed_by to = fold-Node Node (renamed_step to)
