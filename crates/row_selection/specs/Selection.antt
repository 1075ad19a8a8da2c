-- The rows of a primitive's table that may match at a change of one input from one value, and what the first of them gives that
-- does. (What a row matches and which row decides: IEEE 1364-2005, clause 8.)
use Rattle.std.specs.Prelude.{ℕ, Bool, true, false, not, ◌&&◌, ◌||◌, nat_eq, List, [], ◌∷◌, ◌++◌, map, filter, slice_set}
use Rattle.std.specs.Prelude.{slice_index_or}
use Rattle.std.specs.List.{list_all}
use Rattle.trit_cubes.specs.declared.trits.Trit.{Trit}
use Rattle.trit_cubes.specs.declared.trits.Trit.TheVariants.{Zero, One, Unknown}
use Rattle.udp_tables.specs.declared.table.Level.TheVariants as level
use Rattle.udp_tables.specs.declared.table.Entry.{Entry}
use Rattle.udp_tables.specs.declared.table.Entry.TheVariants as entry
use Rattle.udp_tables.specs.declared.table.UdpRow.{UdpRow}
use Rattle.udp_tables.specs.Tables.{first}
use Rattle.udp_tables.specs.Primitive.{level_matches, entry_matches, is_level, next_of}
use Rattle.udp_tables.specs.Sequential.{is_level_row}
use Rattle.udp_tables.specs.RowWords.{row_words, may_match}
use Rattle.udp_tables.specs.RowKeys.{level_after}
use Rattle.row_selection.specs.declared.selected_rows.SelectedRow.{SelectedRow}

-- the entry `?`
abbrev pub any : Entry
any = entry.Level level.Any

-- the entries with `?` in the place of that of the input that changes
abbrev pub settled : ℕ → UdpRow → List Entry
settled p row = slice_set row.inputs p any

-- whether an entry matches some change from this value
abbrev pub may_go : Entry → Trit → Bool
may_go e old = entry_matches e old Zero || (entry_matches e old One || entry_matches e old Unknown)

-- Whether a row may match at a change of input p from this value: its entry of that input matches some change from it, and no
-- other entry asks for a change.
abbrev pub selects : ℕ → Trit → UdpRow → Bool
selects p old row = may_go (slice_index_or row.inputs p any) old && list_all is_level (settled p row)

-- the rows without a change entry, or those with one
abbrev pub is_of : Bool → UdpRow → Bool
is_of true row = is_level_row row
is_of false row = not (is_level_row row)

-- what is asked of a row
abbrev pub selected_row : ℕ → UdpRow → SelectedRow
selected_row p row =
    record {
      words = row_words level_after (settled p row);
      entry = slice_index_or row.inputs p any;
      state = row.state;
      next =
          row.next;
    }

-- The rows that are selected, in the order in which they decide: those without a change entry, and then those with one.
abbrev pub selected_of : Bool → ℕ → Trit → List UdpRow → List SelectedRow
selected_of levels p old rows = map (selected_row p) (filter (λ row. is_of levels row && selects p old row) rows)

abbrev pub selection : ℕ → Trit → List UdpRow → List SelectedRow
selection p old rows = selected_of true p old rows ++ selected_of false p old rows

-- Whether a selected row matches, where the inputs have this word, the one that changes goes from the one value to the other, and
-- the state is this one.
abbrev pub selected_hit : ℕ → Trit → Trit → Trit → SelectedRow → Bool
selected_hit word old new state row =
    may_match row.words word && (entry_matches row.entry old new && level_matches row.state state)

-- what the first selected row that matches gives, x without one
abbrev pub chosen : ℕ → Trit → Trit → Trit → List SelectedRow → Trit
chosen word old new state rows = first (selected_hit word old new state) (λ row. next_of state row.next) rows Unknown

-- Whether a row asks nothing of the inputs that stand under number n in an order of the inputs: their entries are `?`.
abbrev pub is_any : Entry → Bool
is_any (entry.Level level.Any) = true
is_any _ = false

abbrev pub asks_nothing : ℕ → List ℕ → List Entry → Bool
asks_nothing n [] es = true
asks_nothing n (k ∷ ks) [] = true
asks_nothing n (k ∷ ks) (e ∷ es) = (not (nat_eq k n) || is_any e) && asks_nothing n ks es

-- whether no row asks anything of them that may match at a change of input p from this value
abbrev pub ignored_by : ℕ → Trit → ℕ → List ℕ → UdpRow → Bool
ignored_by p old n order row = asks_nothing n order row.inputs || not (selects p old row)

abbrev pub ignored : ℕ → Trit → ℕ → List ℕ → List UdpRow → Bool
ignored p old n order rows = list_all (ignored_by p old n order) rows
