-- The rows that this project writes for a function, from the primes of the points at which it gives 1 and 0.
use Rattle.std.specs.Prelude.{◌≡◌, ℕ, zero, suc, Bool, false, List, [], ◌∷◌, ◌++◌, map, length}
use Rattle.trit_cubes.specs.declared.trits.Trit.{Trit}
use Rattle.trit_cubes.specs.declared.trits.Trit.TheVariants as trit
use Rattle.trit_cubes.specs.Filling.{trit_of}
use Rattle.trit_cubes.specs.Resolution.{res}
use Rattle.cell_machine.specs.bool_functions.declared.tree.Node.{Node}
use Rattle.cell_machine.specs.bool_functions.Tree.{value_of}
use Rattle.udp_tables.specs.declared.table.Level.TheVariants as level
use Rattle.udp_tables.specs.declared.table.Entry.{Entry}
use Rattle.udp_tables.specs.declared.table.Entry.TheVariants as entry
use Rattle.udp_tables.specs.declared.table.Next.{Next}
use Rattle.udp_tables.specs.declared.table.Next.TheVariants as next
use Rattle.udp_tables.specs.declared.table.UdpRow.{UdpRow}
use Rattle.udp_tables.specs.declared.table.Udp.{Udp}
use Rattle.udp_tables.specs.Edges.{rows_by}
use Rattle.udp_tables.specs.Primitive.{level_output, IsCombinational}
use Rattle.udp_tables.specs.PortNames.{output_name, input_names}

-- the entry for a place of a cube: `?` where it is free
abbrev pub level_entry : Trit → Entry
level_entry trit.Zero = entry.Level level.Zero
level_entry trit.One = entry.Level level.One
level_entry trit.Unknown = entry.Level level.Any

-- what a row that gives this value has in its last column
abbrev pub next_to : Trit → Next
next_to trit.Zero = next.Zero
next_to trit.One = next.One
next_to trit.Unknown = next.Unknown

-- the row of levels that gives this value on the points of a cube
abbrev pub level_row : Trit → List Trit → UdpRow
level_row value cube = record { inputs = map level_entry cube; state = level.Any; next = next_to value }

-- the rows of a function of n places
abbrev pub function_rows : ℕ → (List Bool → Trit) → List UdpRow
function_rows = rows_by level_row

-- the combinational primitive of a function of n places
abbrev pub primitive_of : List ℕ → ℕ → (List Bool → Trit) → Udp
primitive_of name n f =
    record { name = name; output = output_name; inputs = input_names n; sequential = false; rows = function_rows n f }

-- the value of a function tree at a point, as a trit
abbrev pub tree_value : Node → List Bool → Trit
tree_value f p = trit_of (value_of p f)

-- the primitive of a function text with n names: input k is the name with the number k - 1
abbrev pub function_primitive : List ℕ → Node → ℕ → Udp
function_primitive name f n = primitive_of name n (tree_value f)

-- the numbers from 0 on
abbrev pub numbers_below : ℕ → List ℕ
numbers_below zero = []
numbers_below (suc n) = numbers_below n ++ n ∷ []

-- the generated rows give the resolution of the function, for every list of trits
abbrev pub RowsGiveResolution : Type 0
RowsGiveResolution =
    (n : ℕ) (f : List Bool → Trit) (inputs : List Trit)
    → length inputs ≡ n → level_output (function_rows n f) inputs ≡ res f inputs

-- the generated primitive has an entry for each input in each row, and no change entry
abbrev pub PrimitiveIsCombinational : Type 0
PrimitiveIsCombinational = (name : List ℕ) (n : ℕ) (f : List Bool → Trit) → IsCombinational (primitive_of name n f)
