-- The tables of sequential primitives: what they mean, by IEEE 1364-2005, clause 8, and the rows that this project writes
-- for a step.
use Rattle.std.specs.Prelude.{◌≡◌, ◌≤◌, ℕ, count_by, Bool, true, false, not, ◌&&◌, All, List, [], ◌∷◌, ◌++◌, map, length}
use Rattle.std.specs.Prelude.{replicate, Option, Some, None}
use Rattle.std.specs.List.{list_all}
use Rattle.trit_cubes.specs.declared.trits.Trit.{Trit}
use Rattle.trit_cubes.specs.declared.trits.Trit.TheVariants as trit
use Rattle.cell_machine.specs.Machine.{Step, last}
use Rattle.udp_tables.specs.declared.table.Level.{Level}
use Rattle.udp_tables.specs.declared.table.Level.TheVariants as level
use Rattle.udp_tables.specs.declared.table.Entry.{Entry}
use Rattle.udp_tables.specs.declared.table.Entry.TheVariants as entry
use Rattle.udp_tables.specs.declared.table.Next.{Next}
use Rattle.udp_tables.specs.declared.table.Next.TheVariants as next
use Rattle.udp_tables.specs.declared.table.UdpRow.{UdpRow}
use Rattle.udp_tables.specs.declared.table.Udp.{Udp}
use Rattle.udp_tables.specs.Tables.{first, columns_match, or_row}
use Rattle.udp_tables.specs.Primitive.{level_matches, entry_matches, is_level, next_of}
use Rattle.udp_tables.specs.Generated.{level_entry, next_to}
use Rattle.udp_tables.specs.Edges.{forced_rows, edge_rows, compact_edge_rows, each_below, change_columns}

-- Whether the row matches a change of the inputs in this state: its level entries hold the values after, its change entry
-- the change, and its state column the state. A change entry of an input that does not change matches nothing.
abbrev pub row_matches : List Trit → List Trit → Trit → UdpRow → Bool
row_matches before after state row =
    columns_match entry_matches row.inputs before after && level_matches row.state state

-- whether the row has no change entry
abbrev pub is_level_row : UdpRow → Bool
is_level_row row = list_all is_level row.inputs

abbrev pub level_hit : List Trit → List Trit → Trit → UdpRow → Bool
level_hit before after state row = is_level_row row && row_matches before after state row

abbrev pub edge_hit : List Trit → List Trit → Trit → UdpRow → Bool
edge_hit before after state row = not (is_level_row row) && row_matches before after state row

-- what a row gives in this state
abbrev pub row_next : Trit → UdpRow → Trit
row_next state row = next_of state row.next

-- The next state of a sequential primitive at a change of its inputs: that of the first row of levels that matches, else
-- of the first row with a change entry that matches, else x.
abbrev pub udp_next : List UdpRow → List Trit → List Trit → Trit → Trit
udp_next rows before after state =
    first (level_hit before after state) (row_next state) rows
    (first (edge_hit before after state) (row_next state) rows trit.Unknown)

-- a primitive with an entry for each input in each row
abbrev pub HasEntries : Udp → Type 0
HasEntries udp = All (λ row. length row.inputs ≡ length udp.inputs) udp.rows

-- how many entries of a row are changes
abbrev pub changes_in : UdpRow → ℕ
changes_in row = count_by (λ e. not (is_level e)) row.inputs

-- a primitive with an entry for each input in each row, of which at most one is a change
pub record IsSequential (udp : Udp) : Type 0 where
  pub entries : HasEntries udp
  pub changes : All (λ row. changes_in row ≤ 1) udp.rows

-- the level for a place of a cube: `?` where it is free
abbrev pub level_symbol : Trit → Level
level_symbol trit.Zero = level.Zero
level_symbol trit.One = level.One
level_symbol trit.Unknown = level.Any

-- the entry for the value before and the value after: `*` where both are free
abbrev pub edge_entry : Trit → Trit → Entry
edge_entry trit.Unknown trit.Unknown = entry.Star
edge_entry trit.Unknown trit.Zero = entry.Pair level.Any level.Zero
edge_entry trit.Unknown trit.One = entry.Pair level.Any level.One
edge_entry trit.Zero new = entry.Pair level.Zero (level_symbol new)
edge_entry trit.One new = entry.Pair level.One (level_symbol new)

-- the list of the inputs, and what stands for the notifier last where there is one
abbrev pub noted : {X : Type 0} → Bool → X → List X → List X
noted false note xs = xs
noted true note xs = xs ++ note ∷ []

-- the row of these entries, whatever the notifier is
abbrev pub symbols_row : Bool → List Entry → Level → Next → UdpRow
symbols_row checks entries state following =
    record { inputs = noted checks (entry.Level level.Any) entries; state = state; next = following }

-- what a row has in its last column that gives this value, or keeps the state where there is none
abbrev pub next_after : Option Trit → Next
next_after None = next.Keep
next_after (Some value) = next_to value

-- the row that gives this value on the points of a cube, whatever the state and the notifier are
abbrev pub state_row : Bool → Trit → List Trit → UdpRow
state_row checks value cube = symbols_row checks (map level_entry cube) level.Any (next_to value)

-- the row by which each change of the notifier makes the state unknown, unless a row of levels decides
abbrev pub notifier_rows : Bool → ℕ → List UdpRow
notifier_rows false n = []
notifier_rows true n =
    record { inputs = noted true entry.Star (map level_entry (replicate n trit.Unknown)); state = level.Any; next = next.Unknown }
    ∷ []

-- the entries of the inputs for the cube of a change of the one at place p
abbrev pub edge_inputs : ℕ → List Trit → List Entry
edge_inputs = change_columns level_entry edge_entry

-- the row of the cube of a change that asks for this state and gives this next one
abbrev pub change_row : Bool → ℕ → List Trit → Level → Next → UdpRow
change_row checks p cube state following = symbols_row checks (edge_inputs p cube) state following

-- the row that gives this value on the points of the cube of a change
abbrev pub edge_row : Bool → ℕ → Trit → List Trit → UdpRow
edge_row checks p value cube = change_row checks p cube (level_symbol (last trit.Unknown cube)) (next_to value)

-- the row that keeps the state there, whatever it is
abbrev pub keep_row : Bool → ℕ → List Trit → UdpRow
keep_row checks p cube = change_row checks p cube level.Any next.Keep

-- The rows of a step of n inputs: the forced points, the notifier where there is one, and then the rows of the changes of
-- each input. Where there is no row, one row of free places gives x.
abbrev pub step_rows : Bool → ℕ → Step → (ℕ → List UdpRow) → List UdpRow
step_rows checks n step changes =
    or_row (state_row checks trit.Unknown (replicate n trit.Unknown))
    (forced_rows (state_row checks) n step ++ notifier_rows checks n ++ each_below changes n)

-- the rows in plain form: a row for each prime
abbrev pub sequential_rows : Bool → ℕ → Step → List UdpRow
sequential_rows checks n step = step_rows checks n step (edge_rows (edge_row checks) step n)

-- The rows in compact form, which primitives have: two rows that hold the state are one.
abbrev pub compact_rows : Bool → ℕ → Step → List UdpRow
compact_rows checks n step = step_rows checks n step (compact_edge_rows (edge_row checks) (keep_row checks) step n)
