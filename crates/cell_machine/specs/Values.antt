-- Values of all names of a cell.
use Rattle.std.specs.Prelude.{ℕ, ◌+◌, Bool, false, not, List, [], ◌∷◌, map, replicate, slice_index_or, slice_set, Option, Some}
use Rattle.std.specs.Prelude.{None, ◌≤◌, ⊤}
use Rattle.bool_functions.specs.declared.tree.Node.{Node}
use Rattle.bool_functions.specs.Tree.{value_of, name_bound}

-- A value for each name, all 0: 64 pins and two variables for each of 16 groups.
unfoldable pub no_values : List Bool
no_values = replicate 96 false

-- the values with those at these places written over
abbrev pub written : List Bool → List ℕ → List Bool → List Bool
written values [] _ = values
written values (i ∷ is) [] = values
written values (i ∷ is) (b ∷ bs) = written (slice_set values i b) is bs

-- the values at these places
abbrev pub picked : List Bool → List ℕ → List Bool
picked values places = map (λ i. slice_index_or values i false) places

-- whether a function that may be absent is 1; an absent one is 0
abbrev pub is_on : List Bool → Option Node → Bool
is_on values None = false
is_on values (Some f) = value_of values f

-- the values with a group's state s under its name, and the second variable as its inverse
abbrev pub with_state : ℕ → Bool → List Bool → List Bool
with_state name s values = slice_set (slice_set values name s) (name + 1) (not s)

-- a function names nothing from 96 on
abbrev pub IsBounded : Option Node → Type 0
IsBounded None = ⊤
IsBounded (Some f) = name_bound f ≤ 96
