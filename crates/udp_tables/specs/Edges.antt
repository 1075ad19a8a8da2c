-- The rows of a function and of a step in any language, from the primes of the points at which it gives 1 and 0.
use Rattle.std.specs.Prelude.{ℕ, zero, suc, Bool, true, false, not, ◌&&◌, ◌||◌, List, [], ◌∷◌, ◌++◌, map, filter, replicate}
use Rattle.std.specs.Prelude.{if◌then◌else◌, Option, Some, None}
use Rattle.std.specs.List.{list_any}
use Rattle.trit_cubes.specs.declared.trits.Trit.{Trit}
use Rattle.trit_cubes.specs.declared.trits.Trit.TheVariants.{Zero, One, Unknown}
use Rattle.trit_cubes.specs.Filling.{is_unknown, same}
use Rattle.trit_cubes.specs.Sets.{gives}
use Rattle.trit_cubes.specs.Prime.{prime_list}
use Rattle.cell_machine.specs.Machine.{Step, insert, init, last, edge_value, forced_at}
use Rattle.udp_tables.specs.Tables.{value_rows, or_row}

-- The rows of a function of n places: the primes of the points at which it gives 1, then of those at which it gives 0. Where
-- there is no row, one row of free places gives x.
abbrev pub rows_by : {R : Type 0} → (Trit → List Trit → R) → ℕ → (List Bool → Trit) → List R
rows_by make n f =
    or_row (make Unknown (replicate n Unknown)) (value_rows make (prime_list n (gives One f)) (prime_list n (gives Zero f)))

-- The rows of the points that are forced to 1, and then to 0.
abbrev pub forced_rows : {R : Type 0} → (Trit → List Trit → R) → ℕ → Step → List R
forced_rows make n step =
    value_rows make (prime_list n (gives One (forced_at step))) (prime_list n (gives Zero (forced_at step)))

-- Whether the cube of a change, whose first places are the value before and the value after, has points that change:
-- these two are not fixed and equal.
abbrev pub moves : List Trit → Bool
moves [] = false
moves (old ∷ []) = false
moves (old ∷ new ∷ rest) = is_unknown old || not (same old new)

-- At changes of the input at place p of n: the primes over its value before, its value after, the other inputs in order
-- and the state, of the points at which the step gives this value, less those that do not change.
abbrev pub edge_cubes : Step → ℕ → ℕ → Trit → List (List Trit)
edge_cubes step n p value = filter moves (prime_list (suc (suc n)) (gives value (edge_value step p)))

-- the rows of the changes of one input that give 1, and then 0
abbrev pub edge_rows : {R : Type 0} → (ℕ → Trit → List Trit → R) → Step → ℕ → ℕ → List R
edge_rows make step n p = value_rows (make p) (edge_cubes step n p One) (edge_cubes step n p Zero)

-- what a function gives of each number below n, in order
abbrev pub each_below : {R : Type 0} → (ℕ → List R) → ℕ → List R
each_below rows zero = []
each_below rows (suc n) = each_below rows n ++ rows n

-- whether two cubes are equal
abbrev pub same_cube : List Trit → List Trit → Bool
same_cube [] [] = true
same_cube (s ∷ ss) (t ∷ ts) = same s t && same_cube ss ts
same_cube _ _ = false

-- the cube with another last place, that of the state
abbrev pub with_last : Trit → List Trit → List Trit
with_last state [] = []
with_last state (t ∷ []) = state ∷ []
with_last state (t ∷ u ∷ ts) = t ∷ with_last state (u ∷ ts)

-- A cube with this state is paired where the cubes have the one that is equal to it at all other places and has the other
-- state.
abbrev pub is_paired : Trit → Trit → List (List Trit) → List Trit → Bool
is_paired state other cubes cube =
    same state (last Unknown cube) && list_any (same_cube (with_last other cube)) cubes

-- a paired cube with state 1 as a row that keeps the state, any other as a row that gives 1
abbrev pub kept_or_one : {R : Type 0} → (Trit → List Trit → R) → (List Trit → R) → List (List Trit) → List Trit → R
kept_or_one make keep zeros cube = if is_paired One Zero zeros cube then keep cube else make One cube

-- the rows of two lists of cubes in compact form: two that hold the state are one
abbrev pub compact_value_rows : {R : Type 0} → (Trit → List Trit → R) → (List Trit → R) → List (List Trit) → List (List Trit)
    → List R
compact_value_rows make keep ones zeros =
    map (kept_or_one make keep zeros) ones ++ map (make Zero) (filter (λ c. not (is_paired Zero One ones c)) zeros)

-- The rows of the changes of one input in compact form: the primes that give 1, those that hold the state without one, and
-- then the primes that give 0 and are in no pair.
abbrev pub compact_edge_rows : {R : Type 0} → (ℕ → Trit → List Trit → R) → (ℕ → List Trit → R) → Step → ℕ → ℕ → List R
compact_edge_rows make keep step n p =
    compact_value_rows (make p) (keep p) (edge_cubes step n p One) (edge_cubes step n p Zero)

-- The rows of a step of n inputs that decide what it gives: the forced points, the rows of a check that reports, and then the
-- rows of the changes of each input, in compact form.
abbrev pub decisive_rows :
    {R : Type 0} → (Trit → List Trit → R) → (ℕ → List R) → (ℕ → Trit → List Trit → R) → (ℕ → List Trit → R) → ℕ → Step → List R
decisive_rows level report edge keep n step =
    forced_rows level n step ++ report n ++ each_below (compact_edge_rows edge keep step n) n

-- The columns of the inputs for the cube of a change of the one at place p, from the symbol for a place of a cube and the one for
-- the value before and the value after.
abbrev pub change_columns : {E : Type 0} → (Trit → E) → (Trit → Trit → E) → ℕ → List Trit → List E
change_columns place change p [] = []
change_columns place change p (old ∷ []) = []
change_columns place change p (old ∷ new ∷ rest) = insert p (change old new) (map place (init rest))

-- The row of the points of a cube, in a language that has a symbol for each place and makes rows of levels from symbols.
abbrev pub level_row_by : {E R : Type 0} → (Trit → E) → (List E → Trit → R) → Trit → List Trit → R
level_row_by place row value cube = row (map place cube) value

-- The row of the cube of a change, in a language that has a symbol for each place and for the values before and after, and makes
-- rows from symbols, from the state that they ask for and from what they give: it asks for the state of the cube.
abbrev pub edge_row_by :
    {E R : Type 0} → (Trit → E) → (Trit → Trit → E) → (List E → Trit → Option Trit → R) → ℕ → Trit → List Trit → R
edge_row_by place change row p value cube = row (change_columns place change p cube) (last Unknown cube) (Some value)

-- the row that keeps the state there, whatever it is
abbrev pub keep_row_by :
    {E R : Type 0} → (Trit → E) → (Trit → Trit → E) → (List E → Trit → Option Trit → R) → ℕ → List Trit → R
keep_row_by place change row p cube = row (change_columns place change p cube) Unknown None
