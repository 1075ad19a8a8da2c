-- The masks of the rows of each kind of table. (This project's choice.)
use Rattle.std.specs.Prelude.{ℕ, Bool, true, false, List, length, slice_get}
use Rattle.std.specs.Option.{option_map_or}
use Rattle.udp_tables.specs.declared.table.Udp.{Udp}
use Rattle.udp_tables.specs.declared.table.UdpRow.{UdpRow}
use Rattle.udp_tables.specs.Primitive.{level_matches, entry_matches}
use Rattle.udp_tables.specs.Sequential.{is_level_row}
use Rattle.vital_tables.specs.declared.table.TruthRow.{TruthRow}
use Rattle.vital_tables.specs.declared.table.VStateRow.{VStateRow}
use Rattle.vital_tables.specs.Symbols.{trits_match, symbol_matches}
use Rattle.vital_tables.specs.Symbols.{level_matches as truth_level_matches}
use Rattle.row_masks.specs.declared.row_tests.RowTest.{RowTest}
use Rattle.row_masks.specs.declared.row_tests.RowTest.TheVariants as test
use Rattle.row_masks.specs.declared.rows.RowMasks.{RowMasks}
use Rattle.row_masks.specs.Masks.{table_masks}

-- what a row of a primitive passes: its rows of levels decide first
abbrev pub udp_passes : UdpRow → RowTest → Bool
udp_passes row (test.Column place old new) = option_map_or (λ e. entry_matches e old new) (slice_get row.inputs place) false
udp_passes row (test.State state) = level_matches row.state state
udp_passes row test.First = is_level_row row
udp_passes row test.Nothing = true

-- what a row of a truth table passes
abbrev pub truth_passes : TruthRow → RowTest → Bool
truth_passes row (test.Column place old new) =
    option_map_or (λ e. truth_level_matches e old new) (slice_get row.inputs place) false
truth_passes row (test.State state) = true
truth_passes row test.First = true
truth_passes row test.Nothing = true

-- what a row of a state table passes
abbrev pub state_passes : VStateRow → RowTest → Bool
state_passes row (test.Column place old new) = option_map_or (λ e. symbol_matches e old new) (slice_get row.inputs place) false
state_passes row (test.State state) = trits_match row.state state
state_passes row test.First = true
state_passes row test.Nothing = true

-- the masks of the rows of a primitive, and of a truth table and a state table of so many columns
abbrev pub udp_masks : Udp → List RowMasks
udp_masks udp = table_masks udp_passes (length udp.inputs) udp.rows

abbrev pub truth_masks : ℕ → List TruthRow → List RowMasks
truth_masks = table_masks truth_passes

abbrev pub state_masks : ℕ → List VStateRow → List RowMasks
state_masks = table_masks state_passes
