-- The cubes that the rows of a cell's tables are made from, in no language, and the rows that they stand for in any. This
-- project's choice.
use Rattle.std.specs.Prelude.{ℕ, Bool, List, [], ◌∷◌, ◌++◌, Option, Some, None, map, length, replicate}
use Rattle.trit_cubes.specs.declared.trits.Trit.{Trit}
use Rattle.trit_cubes.specs.declared.trits.Trit.TheVariants.{Zero, One, Unknown}
use Rattle.trit_cubes.specs.Sets.{gives}
use Rattle.trit_cubes.specs.Prime.{prime_list}
use Rattle.cell_machine.specs.Machine.{Step, forced_at, last}
use Rattle.cell_machine.specs.CellData.{CellData}
use Rattle.cell_machine.specs.CellTrace.{support_at, step_at}
use Rattle.udp_tables.specs.Tables.{value_rows, or_row}
use Rattle.udp_tables.specs.Edges.{compact_edge_rows, each_below}
use Rattle.udp_tables.specs.Conditions.{conditions_of}
use Rattle.udp_tables.specs.declared.parts.Part.{Part}
use Rattle.udp_tables.specs.declared.parts.Part.TheVariants as part
use Rattle.udp_tables.specs.CellPrimitives.{part_places, part_value}
use Rattle.cell_tables.specs.declared.cubes.FunctionCubes.{FunctionCubes}
use Rattle.cell_tables.specs.declared.cubes.ChangeCube.{ChangeCube}
use Rattle.cell_tables.specs.declared.cubes.GroupCubes.{GroupCubes}
use Rattle.cell_tables.specs.declared.cubes.CellCubes.{CellCubes}

-- the cubes of a function of n places: the primes of the points at which it gives 1, and of those at which it gives 0
abbrev pub function_cubes : ℕ → (List Bool → Trit) → FunctionCubes
function_cubes n f =
    record { free = replicate n Unknown; ones = prime_list n (gives One f); zeros = prime_list n (gives Zero f) }

-- a cube of the changes of the input at this place, which gives this value
abbrev pub giving_cube : ℕ → Trit → List Trit → ChangeCube
giving_cube p value cube = record { place = p; gives = Some value; cube = cube }

-- one that keeps the state, whatever it is
abbrev pub keeping_cube : ℕ → List Trit → ChangeCube
keeping_cube p cube = record { place = p; gives = None; cube = cube }

-- the cubes of the changes of one input of a step of n inputs, in the order of their rows
abbrev pub input_cubes : Step → ℕ → ℕ → List ChangeCube
input_cubes = compact_edge_rows giving_cube keeping_cube

-- those of the changes of each input
abbrev pub change_cubes : Step → ℕ → List ChangeCube
change_cubes step n = each_below (input_cubes step n) n

-- the cubes of a step of n inputs
abbrev pub group_cubes : Step → ℕ → GroupCubes
group_cubes step n = record { forced = function_cubes n (forced_at step); changes = change_cubes step n }

-- the cubes of a group of a cell
abbrev pub cubes_of_group : CellData → ℕ → GroupCubes
cubes_of_group cell g = group_cubes (step_at cell g) (length (support_at cell g))

-- the cubes of an output or a condition of a cell
abbrev pub cubes_of_part : CellData → Part → FunctionCubes
cubes_of_part cell which = function_cubes (part_places cell which) (part_value cell which)

-- The cubes of a cell's groups, conditions and outputs, in their order.
abbrev pub cell_cubes : CellData → CellCubes
cell_cubes cell =
    record {
      groups = each_below (λ g. cubes_of_group cell g ∷ []) (length cell.groups);
      conditions = each_below (λ i. cubes_of_part cell (part.Condition i) ∷ []) (length (conditions_of cell));
      outputs = each_below (λ i. cubes_of_part cell (part.Output i) ∷ []) (length cell.outputs);
    }

-- the rows of a function's cubes: those that give 1, then those that give 0, or one row of free places that gives x
abbrev pub rows_of_function : {R : Type 0} → (Trit → List Trit → R) → FunctionCubes → List R
rows_of_function make cubes = or_row (make Unknown cubes.free) (value_rows make cubes.ones cubes.zeros)

-- the row of a cube of the changes of an input, by what it gives
abbrev pub row_by : {R : Type 0} → (ℕ → Trit → List Trit → R) → (ℕ → List Trit → R) → ℕ → List Trit → Option Trit → R
row_by edge keep p cube None = keep p cube
row_by edge keep p cube (Some value) = edge p value cube

abbrev pub change_row : {R : Type 0} → (ℕ → Trit → List Trit → R) → (ℕ → List Trit → R) → ChangeCube → R
change_row edge keep change = row_by edge keep change.place change.cube change.gives

-- the state that the row of a cube asks for, any where it is unknown: that of the cube, and any where the row keeps the state
abbrev pub asked_state : List Trit → Option Trit → Trit
asked_state cube None = Unknown
asked_state cube (Some value) = last Unknown cube

-- the rows of a step's cubes: those that force the state, the rows of a check that reports, and then those of the changes
abbrev pub rows_of_group :
    {R : Type 0} → (Trit → List Trit → R) → (ℕ → List R) → (ℕ → Trit → List Trit → R) → (ℕ → List Trit → R) → GroupCubes → List R
rows_of_group level report edge keep cubes =
    value_rows level cubes.forced.ones cubes.forced.zeros ++ report (length cubes.forced.free)
    ++ map (change_row edge keep) cubes.changes
