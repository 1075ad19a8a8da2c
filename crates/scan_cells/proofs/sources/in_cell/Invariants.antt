use Rattle.std.proofs.Common.{◌≡◌, ◌++◌, drop, length, map}
use Rattle.scan_cells.specs.Views.{view_data}
use Rattle.scan_cells.specs.Places.{in_cell}
use Rattle.scan_cells.proofs.sources.in_cell.Given as goal

abbrev pub invariant-loop-source : goal.invariant-loop-source
invariant-loop-source l = record {
  whole :
      l.found ++ map (in_cell (view_data l.view)) (drop l.source-index l.sources)
      ≡ map (in_cell (view_data l.view)) l.sources;
  len : length l.found ≡ l.source-index;
}
