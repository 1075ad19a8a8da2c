-- What the selected rows decide.
use Rattle.std.specs.Prelude.{◌≡◌, ◌≢◌, ◌<◌, ◌≤◌, ℕ, true, All, List, length, map, slice_set, slice_index_or}
use Rattle.trit_cubes.specs.declared.trits.Trit.{Trit}
use Rattle.trit_cubes.specs.declared.trits.Trit.TheVariants.{Unknown}
use Rattle.udp_tables.specs.declared.table.UdpRow.{UdpRow}
use Rattle.udp_tables.specs.Sequential.{udp_next}
use Rattle.udp_tables.specs.RowWords.{value_word}
use Rattle.cell_machine.specs.Inputs.{numbered_value}
use Rattle.row_selection.specs.Selection.{selection, chosen, ignored}

-- At a change of input p from the value for which they are selected, the selected rows give what all rows give.
abbrev pub SelectedRowsDecide : Type 0
SelectedRowsDecide =
    (p : ℕ) (old : Trit) (rows : List UdpRow) (values : List Trit) (state : Trit)
    → All (λ row. length row.inputs ≡ length values) rows → p < length values → length values ≤ 32
    → chosen (value_word values) old (slice_index_or values p Unknown) state (selection p old rows)
    ≡ udp_next rows (slice_set values p old) values state

-- At a change of input p the next state is the same for other values of the inputs that stand under number n, where no row that
-- may match asks anything of them.
abbrev pub IgnoredInputsAreFree : Type 0
IgnoredInputsAreFree =
    (p : ℕ) (old : Trit) (n : ℕ) (order : List ℕ) (rows : List UdpRow) (values others : List Trit) (state : Trit)
    → ignored p old n order rows ≡ true → All (λ row. length row.inputs ≡ length order) rows
    → p < length order → length order ≤ 32
    → ((k : ℕ) → k ≢ n → numbered_value values k ≡ numbered_value others k)
    → udp_next rows (slice_set (map (numbered_value values) order) p old) (map (numbered_value values) order) state
    ≡ udp_next rows (slice_set (map (numbered_value others) order) p old) (map (numbered_value others) order) state
