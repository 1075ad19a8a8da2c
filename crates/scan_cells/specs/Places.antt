-- The points at which a scan cell and its test view are compared. (This project's rule.)
use Rattle.std.specs.Prelude.{ℕ, ◌==◌, ◌^◌, Bool, true, false, not, ◌||◌, List, ◌++◌, length, map, filter, nat_eq, position}
use Rattle.std.specs.Prelude.{slice_index_or, unwrap_or, bit_xor, if◌then◌else◌}
use Rattle.std.specs.List.{list_any, range_with_len}
use Rattle.std.specs.Option.{option_map_or}
use Rattle.std.specs.Int.{bit_at}
use Rattle.cell_machine.specs.declared.outputs.Source.{Source}
use Rattle.cell_machine.specs.declared.outputs.Source.TheVariants as source
use Rattle.cell_machine.specs.CellData.{CellData}
use Rattle.scan_cells.specs.Views.{ViewData}

-- whether two sources are the same
abbrev pub same_source : Source → Source → Bool
same_source (source.Pin p) (source.Pin q) = nat_eq p q
same_source (source.State g) (source.State h) = nat_eq g h
same_source _ _ = false

-- these pins as sources
abbrev pub pin_sources : List ℕ → List Source
pin_sources pins = map (λ p. source.Pin p) pins

-- these states as sources
abbrev pub state_sources : List ℕ → List Source
state_sources states = map (λ g. source.State g) states

-- A source of a view as one of its cell. State groups correspond by their numbers.
abbrev pub in_cell : ViewData → Source → Source
in_cell view (source.Pin p) = source.Pin (slice_index_or view.pins p 0)
in_cell view (source.State g) = source.State g

-- whether a source is in one of two supports
abbrev pub in_either : List Source → List Source → Source → Bool
in_either first second s = list_any (same_source s) first || list_any (same_source s) second

-- The places of a point: the pins of both supports, ascending, then the states of both, ascending.
abbrev pub places_of : CellData → List Source → List Source → List Source
places_of cell first second =
    filter (in_either first second) (pin_sources (range_with_len 0 (length cell.pins)))
    ++ filter (in_either first second) (state_sources (range_with_len 0 (length cell.groups)))

-- A point is a number, in which place k weighs 2 to the power k: whether place k is 1.
unfoldable pub is_set : ℕ → ℕ → Bool
is_set k point = bit_at point k == 1

-- the value of a source at a point over these places
unfoldable pub value_at : List Source → ℕ → Source → Bool
value_at places point s = is_set (unwrap_or (position (same_source s) places) 0) point

-- the values of a support at a point
abbrev pub values_at : List Source → List Source → ℕ → List Bool
values_at places support point = map (value_at places point) support

-- the point that differs from this one at place k alone
unfoldable pub changed_at : ℕ → ℕ → ℕ
changed_at point k = bit_xor point (2 ^ k)

-- Whether the scan enable of a view is inactive at a point, where it has this place: 0 where it is active at 1, and 1 where
-- it is active at 0.
abbrev pub is_idle : ViewData → ℕ → ℕ → Bool
is_idle view point k = if view.active then not (is_set k point) else is_set k point

-- Whether the scan enable is inactive at a point over these places. An enable that is not among them fixes nothing.
unfoldable pub is_inactive : ViewData → List Source → ℕ → Bool
is_inactive view places point = option_map_or (is_idle view point) (position (same_source (source.Pin view.enable)) places) true
