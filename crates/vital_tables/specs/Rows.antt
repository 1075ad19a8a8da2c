-- The rows that this project writes for a function and for a step, from the primes of the points at which it gives 1 and 0.
use Rattle.std.specs.Prelude.{ℕ, Bool, true, false, List, [], ◌∷◌, ◌++◌, map, replicate, Option, Some, None}
use Rattle.trit_cubes.specs.declared.trits.Trit.{Trit}
use Rattle.trit_cubes.specs.declared.trits.Trit.TheVariants as trit
use Rattle.udp_tables.specs.cell_machine.Machine.{Step, last}
use Rattle.udp_tables.specs.Edges.{rows_by, forced_rows, edge_rows, compact_edge_rows, each_below, change_columns}
use Rattle.vital_tables.specs.declared.table.Trits.{Trits}
use Rattle.vital_tables.specs.declared.table.Trits.TheVariants as trits
use Rattle.vital_tables.specs.declared.table.TruthRow.{TruthRow}
use Rattle.vital_tables.specs.declared.table.VSymbol.{VSymbol}
use Rattle.vital_tables.specs.declared.table.VSymbol.TheVariants as symbol
use Rattle.vital_tables.specs.declared.table.VNext.{VNext}
use Rattle.vital_tables.specs.declared.table.VNext.TheVariants as next
use Rattle.vital_tables.specs.declared.table.VStateRow.{VStateRow}

-- the level for a place of a cube: `'-'` where it is free
abbrev pub level_of : Trit → Trits
level_of trit.Zero = trits.Zero
level_of trit.One = trits.One
level_of trit.Unknown = trits.Any

-- the row of a truth table that gives this value on the points of a cube
abbrev pub truth_row : Trit → List Trit → TruthRow
truth_row value cube = record { inputs = map level_of cube; result = value }

-- the rows of the truth table of a function of n places
abbrev pub truth_rows : ℕ → (List Bool → Trit) → List TruthRow
truth_rows = rows_by truth_row

-- the input columns: what stands for the violation, where there is such a column, and then the pins
abbrev pub violated : {X : Type 0} → Bool → X → List X → List X
violated false violation xs = xs
violated true violation xs = violation ∷ xs

-- the symbol for a place of a cube
abbrev pub level_symbol : Trit → VSymbol
level_symbol place = symbol.Level (level_of place)

-- The symbol for the value before and the value after, free where they are X. Cubes in which both are fixed and equal have no
-- row.
abbrev pub edge_symbol : Trit → Trit → VSymbol
edge_symbol trit.Zero trit.Zero = symbol.From0
edge_symbol trit.Zero trit.One = symbol.Rise
edge_symbol trit.Zero trit.Unknown = symbol.From0
edge_symbol trit.One trit.Zero = symbol.Fall
edge_symbol trit.One trit.One = symbol.From1
edge_symbol trit.One trit.Unknown = symbol.From1
edge_symbol trit.Unknown trit.Zero = symbol.To0
edge_symbol trit.Unknown trit.One = symbol.To1
edge_symbol trit.Unknown trit.Unknown = symbol.Change

-- what a row that gives this value has as its result
abbrev pub next_to : Trit → VNext
next_to trit.Zero = next.Zero
next_to trit.One = next.One
next_to trit.Unknown = next.Unknown

-- the row that keeps the state where there is no violation and no pin changes
abbrev pub steady_row : Bool → ℕ → VStateRow
steady_row checks n =
    record {
      inputs = violated checks (symbol.Level trits.Zero) (replicate n symbol.Steady);
      state = trits.Any;
      result = next.Keep;
    }

-- the row of these symbols of the pins, whatever the violation is
abbrev pub symbols_row : Bool → List VSymbol → Trits → VNext → VStateRow
symbols_row checks symbols state following =
    record { inputs = violated checks (symbol.Level trits.Any) symbols; state = state; result = following }

-- the row that gives this value on the points of a cube, whatever the violation and the state are
abbrev pub level_row : Bool → Trit → List Trit → VStateRow
level_row checks value cube = symbols_row checks (map level_symbol cube) trits.Any (next_to value)

-- the result of a row that gives this value, or keeps the state where there is none
abbrev pub next_after : Option Trit → VNext
next_after None = next.Keep
next_after (Some value) = next_to value

-- the row by which a violation makes the state unknown, unless a row before it decides
abbrev pub violation_rows : Bool → ℕ → List VStateRow
violation_rows false n = []
violation_rows true n =
    record {
      inputs = symbol.Level trits.Unknown ∷ map level_symbol (replicate n trit.Unknown);
      state = trits.Any;
      result = next.Unknown;
    }
    ∷ []

-- the symbols of the pins for the cube of a change of the one at place p
abbrev pub edge_columns : ℕ → List Trit → List VSymbol
edge_columns = change_columns level_symbol edge_symbol

-- the row that gives this value on the points of the cube of a change, whatever the violation is
abbrev pub edge_row : Bool → ℕ → Trit → List Trit → VStateRow
edge_row checks p value cube = symbols_row checks (edge_columns p cube) (level_of (last trit.Unknown cube)) (next_to value)

-- the row that keeps the state there, whatever it is
abbrev pub keep_row : Bool → ℕ → List Trit → VStateRow
keep_row checks p cube = symbols_row checks (edge_columns p cube) trits.Any next.Keep

-- the last row: where no other one matches, the state becomes unknown
abbrev pub closing_row : Bool → ℕ → VStateRow
closing_row checks n = level_row checks trit.Unknown (replicate n trit.Unknown)

-- these rows behind the one that keeps the state where nothing changes, and before the one that makes it unknown
abbrev pub state_rows_around : Bool → ℕ → List VStateRow → List VStateRow
state_rows_around checks n rows = steady_row checks n ∷ (rows ++ closing_row checks n ∷ [])

-- The rows of a step of n pins: no change, the forced points, the violation where there is a column for it, the changes of each
-- pin, all else.
abbrev pub step_rows : Bool → ℕ → Step → (ℕ → List VStateRow) → List VStateRow
step_rows checks n step changes =
    state_rows_around checks n (forced_rows (level_row checks) n step ++ (violation_rows checks n ++ each_below changes n))

-- the rows in plain form: a row for each prime
abbrev pub state_rows : Bool → ℕ → Step → List VStateRow
state_rows checks n step = step_rows checks n step (edge_rows (edge_row checks) step n)

-- The rows in compact form, which state tables have: two rows that hold the state are one.
abbrev pub compact_rows : Bool → ℕ → Step → List VStateRow
compact_rows checks n step = step_rows checks n step (compact_edge_rows (edge_row checks) (keep_row checks) step n)
