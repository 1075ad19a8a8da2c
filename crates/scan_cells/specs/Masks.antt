-- Points that are restricted to some places: at the others they have 0. A mask is the point with 1 at these places.
use Rattle.std.specs.Prelude.{◌≡◌, ℕ, Bool, true, List, position, unwrap_or}
use Rattle.std.specs.List.{list_all}
use Rattle.std.specs.Option.{option_map_or}
use Rattle.cell_machine.specs.declared.outputs.Source.{Source}
use Rattle.cell_machine.specs.declared.outputs.Source.TheVariants as source
use Rattle.scan_cells.specs.Views.{ViewData}
use Rattle.scan_cells.specs.Places.{same_source, is_set}

-- whether a source has its place in a mask
abbrev pub is_in : List Source → ℕ → Source → Bool
is_in places mask s = is_set (unwrap_or (position (same_source s) places) 0) mask

-- whether the scan enable of a view has its place in a mask, where it has one
abbrev pub has_enable : ViewData → List Source → ℕ → Bool
has_enable view places mask = option_map_or (λ k. is_set k mask) (position (same_source (source.Pin view.enable)) places) true

-- A mask that has the places of a support and of the scan enable of a view.
pub record IsMask (view : ViewData) (places support : List Source) (mask : ℕ) : Type 0 where
  pub of_support : list_all (is_in places mask) support ≡ true
  pub of_enable : has_enable view places mask ≡ true
